-- How an open mends a file: header sectors, a sync, then the copies that aren't of the choice, a sync after each.
use Rattle.std.specs.Prelude.{◌≡◌, ◌⊎◌, ◌<◌, ◌%◌, ℕ, List, [], ◌∷◌, ◌++◌, Some}
use Rattle.df_theory.specs.{Units.{AnyUnit, Content, CopyPlace, CopyUnit, Header, HeaderPlace, HeaderUnit, Message, Place, Units, IsReserved}, Tails.{In}, Shape.{Shape, slots}, Copies.{Agree}}
use Rattle.df_theory.specs.{View.{View}, Holds.{IsWhole}, UnitLog.{PutsOne, UnitLog, now}, Rests.{IsGoodLog, IsQuiet, RestsOn}, Runs.{AtEach, Puts, Step, Syncs, after_steps}, MakingLaws.{all_puts}}

-- where the header that a slot is to have comes from: it is shown there, it is that of a prepare of the tail, or it is a reserved one
abbrev pub IsFromSlot : Shape → Units → View → ℕ → Header → Type 0
IsFromSlot sh image v s h = (image (HeaderPlace s) ≡ Some (HeaderUnit h)) ⊎ ((p : Message) × In p v.tail × (p.header ≡ h) × (s ≡ h.op % slots sh)) ⊎ IsReserved h

-- what the header of a slot is to be: the prepare's, where one of the tail stands there
pub record IsSlotHeader (sh : Shape) (image : Units) (v : View) (s : ℕ) (h : Header) : Type 0 where
  pub from : IsFromSlot sh image v s h
  pub tail : (p : Message) → In p v.tail → s ≡ p.header.op % slots sh → p.header ≡ h

-- a header for each slot
abbrev pub IsTable : Shape → Units → View → (ℕ → Header) → Type 0
IsTable sh image v table = (s : ℕ) → IsSlotHeader sh image v s (table s)

-- header sectors as the table has them
abbrev pub PutsTable : (ℕ → Header) → Units → Type 0
PutsTable table put = (place : Place) (y : AnyUnit) → put place ≡ Some y → (s : ℕ) × (place ≡ HeaderPlace s) × (y ≡ HeaderUnit (table s))

abbrev pub AllPutTable : (ℕ → Header) → List Units → Type 0
AllPutTable table [] = Unit {0}
AllPutTable table (put ∷ puts) = PutsTable table put × AllPutTable table puts

-- one of these writes reaches the place
abbrev pub Reaches : List Units → Place → Type 0
Reaches [] place = ⊥
Reaches (put ∷ puts) place = ((y : AnyUnit) × (put place ≡ Some y)) ⊎ Reaches puts place

abbrev pub header_steps : List Units → List Step
header_steps [] = []
header_steps (put ∷ puts) = all_puts (put ∷ puts) ++ (Syncs ∷ [])

-- copies of this content, by number, neither of these two
abbrev pub AllPutCopy : Content → ℕ → ℕ → List (ℕ × Units) → Type 0
AllPutCopy c m n [] = Unit {0}
AllPutCopy c m n (k ∷ ks) = PutsOne k.1 (CopyPlace k.0) (CopyUnit c) × (m ≡ k.0 → ⊥) × (n ≡ k.0 → ⊥) × AllPutCopy c m n ks

abbrev pub IsNumber : ℕ → List (ℕ × Units) → Type 0
IsNumber n [] = ⊥
IsNumber n (k ∷ ks) = (n ≡ k.0) ⊎ IsNumber n ks

abbrev pub copy_steps : List (ℕ × Units) → List Step
copy_steps [] = []
copy_steps (k ∷ ks) = Puts k.1 ∷ Syncs ∷ copy_steps ks

abbrev pub mend_steps : List Units → List (ℕ × Units) → List Step
mend_steps headers copies = header_steps headers ++ copy_steps copies

-- what an open may mend, with these writes: the file rests on the view, the table says what each header is to be, the copies that are written stand beside two of the choice,
-- and each slot and each copy that isn't as it should be is written
pub record MayMend (sh : Shape) (log : UnitLog) (v : View) (table : ℕ → Header) (headers : List Units) (copies : List (ℕ × Units)) : Type 0 where
  pub rests : RestsOn sh log v
  pub quiet : IsQuiet log
  pub tells : IsTable sh (now log) v table
  pub puts_headers : AllPutTable table headers
  pub agreed : Agree (now log) v.checkpoint.content
  pub puts_copies : AllPutCopy v.checkpoint.content agreed.first agreed.second copies
  pub each_slot : (s : ℕ) → s < slots sh → (now log (HeaderPlace s) ≡ Some (HeaderUnit (table s))) ⊎ Reaches headers (HeaderPlace s)
  pub each_copy : (k : ℕ) → k < 4 → (now log (CopyPlace k) ≡ Some (CopyUnit v.checkpoint.content)) ⊎ IsNumber k copies

-- at each moment of the mending each image left has the view, and at the end the log rests on it
abbrev pub MendLaw : Type 0
MendLaw =
    (sh : Shape) (log : UnitLog) (v : View) (table : ℕ → Header) (headers : List Units) (copies : List (ℕ × Units)) → MayMend sh log v table headers copies
    → AtEach (IsGoodLog sh v v) log (mend_steps headers copies) × RestsOn sh (after_steps (mend_steps headers copies) log) v

-- and nothing is left to mend
abbrev pub MendsWholeLaw : Type 0
MendsWholeLaw =
    (sh : Shape) (log : UnitLog) (v : View) (table : ℕ → Header) (headers : List Units) (copies : List (ℕ × Units)) → MayMend sh log v table headers copies
    → IsWhole sh (now (after_steps (mend_steps headers copies) log)) v
