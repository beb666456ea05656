-- What the slots of the four places say of the image that they were read from.
use Rattle.std.{specs.Prelude.{Ok, Err}, proofs.{Common.{◌≡◌, ℕ, ◌<◌, ◌==◌, Bool, true, List, [], ◌∷◌, length, get_or, Option, Some, None, refl, sym, ◌∙◌, ap, arith}, lemmas.Bool.{cond-true, eq-eqb}}}
use Rattle.{df_base.specs.Image.{Image}, df_disk.specs.Told.{Told}}
use Rattle.df_layout.specs.{declared.damage.Class.{Class}, declared.damage.Class.TheVariants.{Blank, Elsewhere, Stale}, declared.places.Zone.TheVariants.{Superblock}}
use Rattle.df_format.{specs.{Own.{place_in}, declared.superblock.SuperCopy.{SuperCopy}, Copies.{Content, copy_in, if_here, copy_at, content_at, class_of_copy, copy_or_class}}, proofs.Laws.{is_here, valid_is_stale}}
use Rattle.df_quorum.{specs.{declared.slot.Slot.{Slot}, Quorum.{Copies, IsChosenContent, CopiesAreSplit, HasChosen, AreMembers, AreClasses, class_in, copies_of, nothing}, declared.choice.Chosen.{Chosen}}, proofs.Laws.{same_law}}
use Rattle.df_recovery.specs.{Opening.{IsUnformatted, shown_classes, HasNoQuorum}, Found.{IsChoiceOf, TellsChoice}}
use Rattle.df_superblock.{specs.{Blank.{AreBlank, IsFirstWrittenOf}, Calls.{slot_of, slot_at, ShowsSlots, ShowsCopies}}, proofs.Laws.{shown_blank, unformatted}}
use Rattle.df_model.specs.declared.errors.OpenError.TheVariants.{NotFormatted, NoQuorum}

-- a slot that isn't used has the class of its sector
class_of_slot : (n : ℕ) (bytes : List ℕ) (o : Option SuperCopy)
    → if_here n (copy_in bytes) ≡ o → class_in n (slot_of (copy_or_class o (class_of_copy n bytes))) ≡ class_of_copy n bytes
unfolding copy_at
class_of_slot n bytes None is = refl
class_of_slot n bytes (Some copy) is = let test : copy.number == n ≡ true = eq-eqb copy.number n (is_here n (copy_in bytes) copy is).1 in
    cond-true (copy.number == n) Stale (Elsewhere (place_in Superblock copy.number)) test ∙ sym (valid_is_stale (λ _. bytes) n copy is)

class_shown : (image : Image) (n : ℕ) → class_in n (slot_at image n) ≡ class_of_copy n (image n)
class_shown image n = class_of_slot n (image n) (if_here n (copy_in (image n))) refl

-- a list of four
four_of : (classes : List Class)
    → length classes ≡ 4 → classes ≡ get_or classes 0 Blank ∷ get_or classes 1 Blank ∷ get_or classes 2 Blank ∷ get_or classes 3 Blank ∷ []
four_of [] size = absurd (omega (arith, size))
four_of (a ∷ []) size = absurd (omega (arith, size))
four_of (a ∷ b ∷ []) size = absurd (omega (arith, size))
four_of (a ∷ b ∷ c ∷ []) size = absurd (omega (arith, size))
four_of (a ∷ b ∷ c ∷ d ∷ []) size = refl
four_of (a ∷ b ∷ c ∷ d ∷ e ∷ rest) size = absurd (omega (arith, size))

module _ (image : Image) (slots : List Slot) (shown : (n : ℕ) → n < 4 → get_or slots n nothing ≡ slot_at image n) where
  pub classes_shown : (classes : List Class) → length classes ≡ 4 → AreClasses slots classes → classes ≡ shown_classes image
  classes_shown classes size are =
      four_of classes size ∙ (λ i. one 0 (omega arith) i ∷ one 1 (omega arith) i ∷ one 2 (omega arith) i ∷ one 3 (omega arith) i ∷ [])
    where
      one : (n : ℕ) → n < 4 → get_or classes n Blank ≡ class_of_copy n (image n)
      one n inside = are n inside ∙ ap (class_in n) (shown n inside) ∙ class_shown image n

-- two views of the four places have the same choice
module _ (one two : Copies) (same : (n : ℕ) → n < 4 → one n ≡ two n) where
  pub chosen_same : (c : Content) → IsChosenContent one c → IsChosenContent two c
  chosen_same c chosen = same_law one two c same chosen

  pub split_same : CopiesAreSplit one → CopiesAreSplit two
  split_same split c agree = split c (record {
    first = agree.first;
    second = agree.second;
    apart = agree.apart;
    inside = agree.inside;
    at_first = same agree.first
        (let low : agree.first < agree.second = agree.apart in let high : agree.second < 4 = agree.inside in omega arith) ∙ agree.at_first;
    at_second = same agree.second agree.inside ∙ agree.at_second;
  })

  pub members_same : (c : Content) (members : List Bool) → AreMembers one c members → AreMembers two c members
  members_same c members are n inside = (λ yes. sym (same n inside) ∙ (are n inside).0 yes, λ shows. (are n inside).1 (same n inside ∙ shows))

-- where a slot isn't blank the disk is formatted
pub formatted : (image : Image) (slots : List Slot) (first : ℕ)
    → ((n : ℕ) → n < 4 → get_or slots n nothing ≡ slot_at image n) → IsFirstWrittenOf slots first → IsUnformatted image → ⊥
formatted image slots first shown is zeros = is.written (shown first is.inside ∙ shown_blank image first (zeros first is.inside))

module _ (image : Image) (slots : List Slot) (shown : (n : ℕ) → n < 4 → get_or slots n nothing ≡ slot_at image n)
    (copies : (n : ℕ) → n < 4 → copies_of slots n ≡ content_at image n) where
  -- the choice over the slots is that of the image
  pub choice_shown : (choice : Chosen) → HasChosen (copies_of slots) choice.content
      → ((c : Content) → IsChosenContent (copies_of slots) c → AreMembers (copies_of slots) c choice.members) → IsChoiceOf image choice
  choice_shown choice (c, chosen, fields) members = record {
    content = c;
    is = chosen_same (copies_of slots) (content_at image) copies c chosen;
    fields = sym fields;
    members = members_same (copies_of slots) (content_at image) copies c choice.members (members c chosen);
  }

  -- and so is its lack
  pub no_quorum : (classes : List Class) (first : ℕ) → length classes ≡ 4
      → AreClasses slots classes → CopiesAreSplit (copies_of slots) → IsFirstWrittenOf slots first → HasNoQuorum image classes
  no_quorum classes first size are split written = record {
    formatted = formatted image slots first shown written;
    split = split_same (copies_of slots) (content_at image) copies split;
    shown = classes_shown image slots shown classes size are;
  }

pub tells_unformatted : (told : Option Told) (slots : List Slot) → ShowsSlots told slots → AreBlank slots 4 → TellsChoice told (Err NotFormatted)
tells_unformatted None slots shown blank = tt
tells_unformatted (Some t) slots shown blank = λ version. unformatted t.shown slots shown blank

pub tells_choice : (told : Option Told) (slots : List Slot) (choice : Chosen)
    → ShowsSlots told slots → ShowsCopies told slots → HasChosen (copies_of slots) choice.content
    → ((c : Content) → IsChosenContent (copies_of slots) c → AreMembers (copies_of slots) c choice.members) → TellsChoice told (Ok choice)
tells_choice None slots choice shown copies chosen members = tt
tells_choice (Some t) slots choice shown copies chosen members = choice_shown t.shown slots shown copies choice chosen members

pub tells_split : (told : Option Told) (slots : List Slot) (classes : List Class) (first : ℕ) → ShowsSlots told slots →
    ShowsCopies told slots → length classes ≡ 4 → AreClasses slots classes → CopiesAreSplit (copies_of slots) → IsFirstWrittenOf slots first
    → TellsChoice told (Err (NoQuorum classes))
tells_split None slots classes first shown copies size are split written = tt
tells_split (Some t) slots classes first shown copies size are split written =
    λ version. no_quorum t.shown slots shown copies classes first size are split written
