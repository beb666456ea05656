-- The key, then the value.
use Rattle.{std.proofs.Common.{◌≡◌, ℕ, List, [], ◌∷◌, ◌++◌, decimal, append_assoc}, df_base.specs.Streams.{Appends, AppendsPart}}
use Rattle.{df_script_model.specs.Texts.{body_text, line_of, spaced}, df_inspect.proofs.Laws.{prints_front, prints_more, prints_same}}
use Rattle.df_rows.proofs.printer.print_found.Goals as goal

two_pieces : (front value : List ℕ) → line_of (spaced front value) ≡ (front ++ 32 ∷ []) ++ line_of value
two_pieces front value = simp append_assoc

pub returns-in_err-write_line-clause-prints : goal.returns-in_err-write_line-clause-prints
returns-in_err-write_line-clause-prints g c = prints_front (decimal c.args.key ++ 32 ∷ [])
    (line_of (body_text c.args.value.now)) _ _ _ _ c.from_residual.ensures.0 (two_pieces (decimal c.args.key) (body_text c.args.value.now))
    (rw c.key_front.ensures at c.in_err-write_line.ensures.prints.part)

pub returns-clause-prints : goal.returns-clause-prints
returns-clause-prints g c = prints_same _ _ _ _ _ (two_pieces (decimal c.args.key) (body_text c.args.value.now)) (prints_more _ _ _ _ _ _
    (rw c.key_front.ensures at c.in_ok-write_line.ensures.prints.whole) c.print_body.ensures.prints)
