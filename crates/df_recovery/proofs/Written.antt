-- A superblock that can be used was written: its content is the one that its fields give.
use Rattle.std.proofs.Common.{◌≡◌, ℕ, ◌==◌, Bool, true, false, cond, List, Option, Some, None, refl, sym, ◌∙◌, ap}
use Rattle.{df_base.specs.{Fields.{check_of}, Image.{Image, IsImage, IsSector}}, df_quorum.specs.Quorum.{IsChosenContent}}
use Rattle.df_format.{specs.{Super.{covered_bytes}, SuperRules.{IsSuper}, Copies.{Content, copy_in, if_here, copy_at, content_in_copy, content_at, content_with}, CopyLaws.{IsWrittenCopy}, declared.superblock.SuperCopy.{SuperCopy}, declared.superblock.SuperFields.{SuperFields}}, proofs.Laws.{was_written}}
use Rattle.df_recovery.{proofs.Asked.{super_as}, specs.{Opening.{HasSuperAs}, OpeningLaws.{SuperIsWritten}}}

-- a content that a sector shows is that of the copy that the sector is
record IsFrom (bytes : List ℕ) (c : Content) : Type 0 where
  copy : SuperCopy
  read : copy_in bytes ≡ Some copy
  checksum : c.checksum ≡ copy.checksum
  fields : c.fields ≡ copy.fields

from_here : (bytes : List ℕ) (n : ℕ) (c : Content) (copy : SuperCopy) (here : Bool)
    → copy_in bytes ≡ Some copy → content_in_copy (cond here (Some copy) None) ≡ Some c → IsFrom bytes c
from_here bytes n c copy false read is = absurd (cc)
from_here bytes n c copy true read is = let same : record { checksum = copy.checksum; fields = copy.fields } ≡ c = cc in
    record { copy = copy; read = read; checksum = sym (ap (λ (d : Content). d.checksum) same); fields = sym (ap (λ (d : Content). d.fields) same) }

from_sector : (bytes : List ℕ) (n : ℕ) (c : Content) (o : Option SuperCopy)
    → copy_in bytes ≡ o → content_in_copy (if_here n o) ≡ Some c → IsFrom bytes c
from_sector bytes n c None read is = absurd (cc)
from_sector bytes n c (Some copy) read is = from_here bytes n c copy (copy.number == n) read is

from_image : (image : Image) (n : ℕ) (c : Content) → content_at image n ≡ Some c → IsFrom (image n) c
unfolding copy_at
from_image image n c is = from_sector (image n) n c (copy_in (image n)) refl is

-- which has the checksum of its fields where nothing stands after them
content_is : (image : Image) (n : ℕ) (c : Content)
    → IsSector (image n) → c.fields.first_nonzero ≡ None → content_at image n ≡ Some c → c ≡ content_with c.fields
content_is image n c sector none is = let one = from_image image n c is in let written : IsWrittenCopy one.copy =
    (was_written (image n) one.copy sector (sym (ap (λ (f : SuperFields). f.first_nonzero) one.fields) ∙ none) one.read).0 in
    let sum : c.checksum ≡ check_of (covered_bytes c.fields) =
    one.checksum ∙ written.checksum ∙ sym (ap (λ (f : SuperFields). check_of (covered_bytes f)) one.fields) in
    λ i. record { checksum = sum i; fields = c.fields }

-- the content that is chosen is the one that its fields are written with
pub written_as : (version : ℕ) (image : Image) (f : SuperFields)
    → IsImage image → (found : HasSuperAs version image f) → found.content ≡ content_with f
written_as version image f whole found = let rules : IsSuper f = (super_as version f found.usable).1 in
    let none : found.content.fields.first_nonzero ≡ None = ap (λ (g : SuperFields). g.first_nonzero) found.fields ∙ rules.zero in
    let same : found.content ≡ content_with found.content.fields = content_is
    image found.chosen.agreed.second found.content (whole.sectors found.chosen.agreed.second) none found.chosen.agreed.at_second in
    same ∙ ap content_with found.fields

pub super_is_written_as : SuperIsWritten
super_is_written_as version image f whole found = rw (written_as version image f whole found) at found.chosen
