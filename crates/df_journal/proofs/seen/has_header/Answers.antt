-- Two checksums are one where their numbers are.
use Rattle.std.{proofs.{Common.{◌≡◌, ◌∙◌, ap, sym, subst}, lemmas.Slice.Eq.{bytes_eq-Decides}}, specs.Prelude.{◌==◌}}
use Rattle.{df_format.specs.Spelling.{IsCheck}, df_units.specs.Meaning.{number_of}}
use Rattle.df_journal.{specs.{Planned.{has_header_of}, Seen.{IsOfCheck}}, proofs.Decisions.{same_sums}}
use Rattle.df_journal.proofs.seen.has_header.Goals as goal

pub returns-in-Ok : goal.returns-in-Ok
returns-in-Ok c = λ checksum ring. let iff = bytes_eq-Decides c.in-Ok.header.checksum c.args.checksum.now in
    let own : IsCheck c.in-Ok.header.checksum = subst IsOfCheck c.in-Ok.is ring in
    let told : c.eq.result ≡ (number_of c.in-Ok.header.checksum == number_of c.args.checksum.now) = same_sums c.in-Ok.header.checksum
    c.args.checksum.now c.eq.result (λ passes. iff.0 (sym c.eq.ensures ∙ passes)) (λ same. c.eq.ensures ∙ iff.1 same) own checksum in
    told ∙ sym (ap (has_header_of c.args.checksum.now) c.in-Ok.is)
