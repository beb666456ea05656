-- A blank slot is a sector of zeros, and a sector of zeros is a blank slot.
use Rattle.std.proofs.Common.{◌≡◌, ◌∙◌, ℕ, ◌<◌, ◌==◌, Bool, true, false, cond, List, get_or, Option, Some, None, refl, sym}
use Rattle.{df_base.specs.Image.{Image}, df_quorum.specs.{declared.slot.Slot.{Slot, TheVariants.{Bad}}, Quorum.{nothing}}}
use Rattle.df_layout.specs.{declared.damage.Class.TheVariants.{Blank, Elsewhere, Stale}, declared.places.Place.{Place}, declared.places.Zone.TheVariants.{Superblock}}
use Rattle.df_format.{specs.{Own.{place_in}, declared.superblock.SuperCopy.{SuperCopy}, Copies.{copy_in, if_here, is_blank_copy, class_of_sound, class_of_copy, copy_or_class, own_copy}}, proofs.Laws.{copy_is_not_blank}}
use Rattle.df_superblock.specs.{Blank.{AreBlank, IsUnformatted}, Calls.{slot_of, slot_at}}

test_blank : (b : Bool) (place : Place) → cond b Stale (Elsewhere place) ≡ Blank → ⊥
test_blank true place is = cc
test_blank false place is = cc

never_blank : (n : ℕ) (o : Option SuperCopy) → class_of_sound n o ≡ Blank → ⊥
never_blank n None is = cc
never_blank n (Some copy) is = test_blank (copy.number == n) (place_in Superblock copy.number) is

blank_class : (n : ℕ) (bytes : List ℕ) (b : Bool)
    → is_blank_copy bytes ≡ b → cond b Blank (class_of_sound n (copy_in bytes)) ≡ Blank → is_blank_copy bytes ≡ true
blank_class n bytes true test is = test
blank_class n bytes false test is = absurd (never_blank n (copy_in bytes) is)

blank_of : (n : ℕ) (bytes : List ℕ) (o : Option SuperCopy)
    → slot_of (copy_or_class o (class_of_copy n bytes)) ≡ Bad Blank → is_blank_copy bytes ≡ true
unfolding class_of_copy
blank_of n bytes (Some copy) is = absurd (cc)
blank_of n bytes None is = blank_class n bytes (is_blank_copy bytes) refl (cc)

pub blank_shown : (image : Image) (n : ℕ) → slot_at image n ≡ Bad Blank → is_blank_copy (image n) ≡ true
blank_shown image n is = blank_of n (image n) (if_here n (copy_in (image n))) is

slot_blank : (n : ℕ) (bytes : List ℕ) → if_here n (copy_in bytes) ≡ None → is_blank_copy bytes ≡ true → slot_of (own_copy n bytes) ≡ Bad Blank
unfolding class_of_copy
slot_blank n bytes none blank = rw none (rw blank refl)

none_here : (n : ℕ) (bytes : List ℕ) (o : Option SuperCopy) → is_blank_copy bytes ≡ true → copy_in bytes ≡ o → if_here n o ≡ None
none_here n bytes None blank is = refl
none_here n bytes (Some copy) blank is = absurd (let sound : is_blank_copy bytes ≡ false = copy_is_not_blank bytes copy is in cc)

pub shown_blank : (image : Image) (n : ℕ) → is_blank_copy (image n) ≡ true → slot_at image n ≡ Bad Blank
shown_blank image n blank = slot_blank n (image n) (none_here n (image n) (copy_in (image n)) blank refl) blank

-- each slot of an unformatted disk is blank
pub unformatted : (image : Image) (slots : List Slot)
    → ((n : ℕ) → n < 4 → get_or slots n nothing ≡ slot_at image n) → AreBlank slots 4 → IsUnformatted image
unformatted image slots shown blank n inside = blank_shown image n (sym (shown n inside) ∙ blank n inside)
