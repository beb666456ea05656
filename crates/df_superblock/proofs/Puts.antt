-- The copies that are written are copies, and what they show is spelled in one way.
use Rattle.std.proofs.{Common.{◌≡◌, ◌<◌, ◌==◌, ℕ, Bool, true, false, List, length, Option, Some, None, refl, sym, ◌∙◌, ap, arith, if◌then◌else◌}, lemmas.Bool.Decides.{nat_tests}}
use Rattle.{df_base.specs.Image.{Image, IsSector, covers}, df_superblock.proofs.Sights.{PutsCopy}}
use Rattle.df_format.{specs.{Super.{copy_bytes}, SuperRules.{IsUsable}, declared.superblock.SuperCopy.{SuperCopy}, declared.superblock.SuperFields.{SuperFields}, Copies.{Content, content_at, content_in_copy, content_with, copy_at, copy_in, if_here}}, proofs.Laws.{written_copy, one_sector, one_copy_spelling}}

single : (n m : ℕ) (bytes : List ℕ) → length bytes ≡ 4096 → (m ≡ n → ⊥) → covers n bytes m ≡ false
unfolding covers
single n m bytes size away = grind (arith, nat_tests)

pub copy_put : (f : SuperFields) → IsUsable f → (n : ℕ) → n < 4 → PutsCopy n (copy_bytes n f) (content_with f)
copy_put f usable n below = record {
  shows = λ image. written_copy image n f below usable;
  alone = λ m away. single n m (copy_bytes n f) (one_sector n f usable.fits).sector.size away;
}

-- the copy after a content that is shown
copy_of_shown : (n : ℕ) (o : Option SuperCopy) (c : Content) → content_in_copy (if_here n o) ≡ Some c
    → (copy : SuperCopy) × (o ≡ Some copy) × (c ≡ record { checksum = copy.checksum; fields = copy.fields })
copy_of_shown n None c is = absurd (let no : None ≡ Some c = is in cc)
copy_of_shown n (Some copy) c is = go (copy.number == n) refl
  where
    go : (b : Bool) → (copy.number == n) ≡ b
        → (found : SuperCopy) × (Some copy ≡ Some found) × (c ≡ record { checksum = found.checksum; fields = found.fields })
    go true here = let shown : Some (record { checksum = copy.checksum; fields = copy.fields }) ≡ Some c =
        sym (ap (λ (b : Bool). content_in_copy (if b then Some copy else None)) here) ∙ is in
        (copy, refl, let same : c ≡ record { checksum = copy.checksum; fields = copy.fields } = cc in same)
    go false there =
        absurd (let none : None ≡ Some c = sym (ap (λ (b : Bool). content_in_copy (if b then Some copy else None)) there) ∙ is in cc)

-- a content with fields that can be used has the checksum that they give
pub one_content : (image : Image) (n : ℕ) (c : Content) (f : SuperFields)
    → IsSector (image n) → IsUsable f → content_at image n ≡ Some c → c.fields ≡ f → content_with f ≡ c
unfolding copy_at
one_content image n c f sector usable shown fields = let from = copy_of_shown n (copy_in (image n)) c shown in
    let copy : SuperCopy = from.0 in let same : copy.fields ≡ f = ap (λ (x : Content). x.fields) (sym from.2) ∙ fields in
    let zero = ap (λ (x : SuperFields). x.first_nonzero) same ∙ usable.rules.zero in
    let spelled = (one_copy_spelling (image n) copy sector zero).0 from.1 in
    let with_own : content_with copy.fields ≡ c = (λ i. record { checksum = sym spelled.0.checksum i; fields = copy.fields }) ∙ sym from.2 in
    ap content_with (sym same) ∙ with_own
