-- What stands after the first byte is a key.
use Rattle.{std.proofs.Common.{◌∷◌, List, ℕ, length, ap, sym, ◌∙◌, arith}, df_base.{specs.Fields.{spelled}, proofs.Laws.{length-spelled}}}
use Rattle.df_rows.proofs.Bodies.{key_alone}
use Rattle.df_rows.proofs.command.drop_in.Goals as goal

pub returns-then-rest-ne-KEY-clause-none : goal.returns-then-rest-ne-KEY-clause-none
returns-then-rest-ne-KEY-clause-none c = λ key fits same. omega (arith, ap length same, length-spelled 16 key)

pub returns-clause-found : goal.returns-clause-found
returns-clause-found c = ap (λ (l : List ℕ). 2 ∷ l) (sym (key_alone c.args.rest.now (λ i. omega (arith, c.type_inv.rest i)) (omega arith))
    ∙ ap (λ (n : ℕ). spelled 16 n) (sym c.u128_at.ensures))
