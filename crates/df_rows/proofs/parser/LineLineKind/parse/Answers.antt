-- A put that is refused says nothing.
use Rattle.{std.proofs.{Common.{codes, rules, arith}, lemmas.Slice.Eq.{text_from_reads}}, df_rows.proofs.Words.{only, putting}}
use Rattle.df_rows.proofs.parser.LineLineKind.parse.Goals as goal

pub returns-in_err-key-in-put-clause-none : goal.returns-in_err-key-in-put-clause-none
returns-in_err-key-in-put-clause-none c =
    rw c.from_residual.ensures (only _ _ _ (codes "put") c.in-Some.ensures.found (search (rules, text_from_reads)) (λ key value says.
    c.in_err-key-in-put.ensures.none key value (putting _ _ key value (omega arith) says)))
