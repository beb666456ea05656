-- Two checksums are equal where they are one number.
use Rattle.{std.proofs.{Common.{sym, ◌∙◌, ap}, lemmas.Slice.Eq.{bytes_eq-Decides}}, df_format.specs.Spelling.{IsCheck}}
use Rattle.df_units.{proofs.Laws.{one_number}, specs.Meaning.{number_of}}
use Rattle.df_replies.proofs.answers.is_same.Goals as goal

pub returns : goal.returns
returns c = let one : IsCheck c.args.one.now = record { size = c.told-one; each = c.fits-one } in
    let other : IsCheck c.args.other.now = record { size = c.told-other; each = c.fits-other } in
    let decides = bytes_eq-Decides c.args.one.now c.args.other.now in (
      λ yes. ap number_of (decides.0 (sym c.eq.ensures ∙ yes)),
      λ same. c.eq.ensures ∙ decides.1 (one_number c.args.one.now c.args.other.now one other same),
    )
