-- What an image shows at the copies' places: the laws that the superblock rests on.
use Rattle.std.proofs.{Common.{◌≡◌, ◌≢◌, inl, inr, ◌+◌, ◌==◌, ℕ, List, length, take, drop, Option, Some, None, refl, ◌∙◌, ap, subst, arith}, lemmas.Bool.{cond-true, cases_order, eq-eqb}, lemmas.List.{take_all}}
use Rattle.df_base.{specs.{Fields.{check_of}, Image.{Image, written}}, proofs.Laws.{written_else}}
use Rattle.df_format.{specs.{declared.superblock.SuperCopy.{SuperCopy}, declared.superblock.SuperFields.{SuperFields}, Super.{NamesNone, covered_bytes, copy_bytes}, SuperRules.{IsSuper}, Copies.{copy_in, if_here, copy_at, content_in_copy}, CopyLaws.{WrittenCopyIsShown, OtherSectorsStay, OtherCopiesStay, CopyIsOneSector, SameSectorSameCopy}}, proofs.{Sectors.{covered, uncovered_above, uncovered_below}, CopySpelled.{copy_is_sector, copy_is_read}}}

-- one sector that is written
written_here : (at : ℕ) (bytes : List ℕ) (image : Image) → length bytes ≡ 4096 → written at bytes image at ≡ bytes
written_here at bytes image size = let here : at + 0 ≡ at = omega arith in
    let all : take 4096 (drop 0 bytes) ≡ bytes = take_all 4096 bytes (omega arith) in
    subst (λ (s : ℕ). written at bytes image s ≡ bytes) here (covered at bytes image 0 (omega arith) ∙ all)

-- and no other sector
pub written_beside : (at : ℕ) (bytes : List ℕ) (image : Image) (sector : ℕ)
    → length bytes ≡ 4096 → sector ≢ at → written at bytes image sector ≡ image sector
written_beside at bytes image sector size other = elim (cases_order sector at) [
  | inl same ↦ absurd (other same)
  | inr differ ↦ elim differ [
    | inl before ↦ written_else at bytes image sector (uncovered_below at bytes sector before)
    | inr behind ↦ written_else at bytes image sector (uncovered_above at bytes sector 1 (omega arith) (omega arith))
  ]
]

pub same_copy : SameSectorSameCopy
unfolding copy_at
same_copy one two number same = ap (λ (bytes : List ℕ). content_in_copy (if_here number (copy_in bytes))) same

pub one_sector : CopyIsOneSector
one_sector number f fits = let sector = copy_is_sector number f fits in
    record { sector = sector; piece = record { some = omega (arith, sector.size); whole = omega (arith, sector.size); each = sector.each } }

pub other_sectors : OtherSectorsStay
other_sectors image number other f differs fits =
    written_beside number (copy_bytes number f) image other (copy_is_sector number f fits).size differs

pub other_copies : OtherCopiesStay
other_copies image number other f differs fits = same_copy _ image other (other_sectors image number other f differs fits)

-- a sector that is a copy's shows its content at the copy's place
shown_by : (number : ℕ) (copy : SuperCopy)
    → copy.number ≡ number → content_in_copy (if_here number (Some copy)) ≡ Some (record { checksum = copy.checksum; fields = copy.fields })
shown_by number copy here = ap content_in_copy (cond-true (copy.number == number) (Some copy) None (eq-eqb copy.number number here))

-- a superblock of version 1 names nothing
nameless_unless_second : (f : SuperFields) → IsSuper f → f.version ≢ 2 → NamesNone f
nameless_unless_second f is other = elim is.version [ inl first ↦ first.named | inr second ↦ absurd (other second.version) ]

pub written_copy : WrittenCopyIsShown
unfolding copy_at
written_copy image number f small is = let here = written_here number (copy_bytes number f) image (copy_is_sector number f is.fits).size in
    let read = copy_is_read number f small is.fits (nameless_unless_second f is.rules) is.rules.zero in
    ap (λ (bytes : List ℕ). content_in_copy (if_here number (copy_in bytes))) here
    ∙ ap (λ (o : Option SuperCopy). content_in_copy (if_here number o)) read
    ∙ shown_by number (record { number = number; checksum = check_of (covered_bytes f); fields = f }) refl
