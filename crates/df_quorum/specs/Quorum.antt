-- What the four copies of the superblock agree on, which of them say it, and of what class the others are.
use Rattle.std.specs.Prelude.{◌≡◌, ◌<◌, ◌≤◌, ◌↔◌, ℕ, Bool, false, IsTrue, List, get_or, Option, Some, None}
use Rattle.df_layout.specs.{declared.damage.Class.{Class}, declared.damage.Class.TheVariants.{Blank}}
use Rattle.df_format.specs.{Copies.{Content, content_in_copy, if_here, rank_of_copy, class_of_sound}, declared.superblock.SuperCopy.{SuperCopy}, declared.superblock.SuperFields.{SuperFields}}
use Rattle.df_quorum.specs.{declared.slot.Slot.{Slot}, declared.slot.Slot.TheVariants.{Sound, Bad}}

-- which content each copy's place shows
abbrev pub Copies : Type 0
Copies = ℕ → Option Content

-- two copies show this content
pub record CopiesAgree (copies : Copies) (c : Content) : Type 0 where
  pub first : ℕ
  pub second : ℕ
  pub apart : first < second
  pub inside : second < 4
  pub at_first : copies first ≡ Some c
  pub at_second : copies second ≡ Some c

-- the greatest content on which at least two copies agree; where two tie, the one of the lowest-numbered copy
pub record IsChosenContent (copies : Copies) (c : Content) : Type 0 where
  pub agreed : CopiesAgree copies c
  pub greatest : (d : Content) → CopiesAgree copies d → rank_of_copy d ≤ rank_of_copy c
  pub lowest : (d : Content) → CopiesAgree copies d → rank_of_copy d ≡ rank_of_copy c → (n : ℕ) → n < 4 → copies n ≡ Some d → (k : ℕ) × (k ≤ n) × (copies k ≡ Some c)

-- no two copies agree
abbrev pub CopiesAreSplit : Copies → Type 0
CopiesAreSplit copies = (c : Content) → CopiesAgree copies c → ⊥

-- the chosen content, or none where no two copies agree
abbrev pub IfChosen : Copies → Option Content → Type 0
IfChosen copies None = CopiesAreSplit copies
IfChosen copies (Some c) = IsChosenContent copies c

-- these are the fields of the chosen content
abbrev pub HasChosen : Copies → SuperFields → Type 0
HasChosen copies fields = (c : Content) × IsChosenContent copies c × (c.fields ≡ fields)

-- true exactly at the numbers of the copies that show this content
abbrev pub AreMembers : Copies → Content → List Bool → Type 0
AreMembers copies c members = (n : ℕ) → n < 4 → IsTrue (get_or members n false) ↔ (copies n ≡ Some c)

-- what copies agree on, of one copy
abbrev pub content_of_copy : SuperCopy → Content
content_of_copy copy = record { checksum = copy.checksum; fields = copy.fields }

-- the sound copy that a slot holds
abbrev pub copy_of : Slot → Option SuperCopy
copy_of (Sound copy) = Some copy
copy_of (Bad class) = None

-- a slot that holds nothing
abbrev pub nothing : Slot
nothing = Bad Blank

-- the content that each of these slots shows: that of a sound copy at its own place alone
abbrev pub copies_of : List Slot → Copies
copies_of slots n = content_in_copy (if_here n (copy_of (get_or slots n nothing)))

-- the class of what the slot of this number holds, where it isn't used
abbrev pub class_in : ℕ → Slot → Class
class_in n (Sound copy) = class_of_sound n (Some copy)
class_in n (Bad class) = class

-- the class of each slot
abbrev pub AreClasses : List Slot → List Class → Type 0
AreClasses slots classes = (n : ℕ) → n < 4 → get_or classes n Blank ≡ class_in n (get_or slots n nothing)
