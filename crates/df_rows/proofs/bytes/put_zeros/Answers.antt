-- The first of the zeros are zeros.
use Rattle.std.proofs.{Common.{◌++◌, ℕ, List, ap, ◌∙◌, arith}, lemmas.List.{take-replicate}}
use Rattle.df_rows.proofs.bytes.put_zeros.Goals as goal

pub returns-clause-put : goal.returns-clause-put
returns-clause-put c = c.put.ensures.put ∙ ap (λ (l : List ℕ). c.args.bytes.now.items ++ l) (take-replicate c.args.count 64 0 (omega arith))
