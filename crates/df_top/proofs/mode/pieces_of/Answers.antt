-- A number above 64 is none of a pace.
use Rattle.{std.proofs.{Common.{arith, ◌∙◌}, lemmas.Bool.Decides.{nat_tests}}, df_top.proofs.Modes.{past_pieces}}
use Rattle.df_top.proofs.mode.pieces_of.Goals as goal

pub returns-then-pieces-gt-MOST_PIECES-clause-none : goal.returns-then-pieces-gt-MOST_PIECES-clause-none
returns-then-pieces-gt-MOST_PIECES-clause-none c = λ n few is. let same = past_pieces
    c.as_bytes.result.now c.in_ok-pieces.pieces n c.in_ok-pieces.ensures.found (c.as_bytes.ensures.value ∙ is) (omega arith) few in
    grind (arith, nat_tests)
