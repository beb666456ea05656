-- What the calls on the copies answer, and what they say of the log that a disk tells.
use Rattle.std.specs.Prelude.{◌≡◌, ◌≢◌, ◌<◌, ◌≤◌, ℕ, true, false, Bool, IsTrue, List, get_or, Option, Some, None, Result, Ok, Err}
use Rattle.df_base.specs.{Image.{Image}, Log.{Event, Log, IsLog, IsLeft, now}}
use Rattle.df_disk.specs.{Told.{Told}, Adds.{AddsPart, after_all, PassedTo}}
use Rattle.df_layout.specs.{declared.damage.Class.{Class}, declared.damage.Class.TheVariants.{Stale}, declared.places.Place.{Place}, declared.places.Zone.TheVariants.{Superblock}}
use Rattle.df_format.specs.{Own.{place_in}, declared.superblock.SuperCopy.{SuperCopy}, declared.superblock.SuperFields.{SuperFields}}
use Rattle.df_format.specs.Copies.{Content, content_at, content_in_copy, content_with, if_here, own_copy}
use Rattle.df_quorum.specs.{declared.slot.Slot.{Slot}, declared.slot.Slot.TheVariants.{Sound, Bad}, declared.choice.Chosen.{Chosen}, Quorum.{IsChosenContent, copies_of, copy_of, nothing}}
use Rattle.df_superblock.specs.{Copies.{AreQuiet, AreEqual, IsMisled, IsOldOrNew, MayUpdate, IsChoice}, declared.updates.UpdateError.{UpdateError}}
use Rattle.df_superblock.specs.declared.updates.UpdateError.TheVariants.{Damaged, DiskFault}

-- ---- reads

-- these bytes are what is shown at a copy's sector, where the disk tells it
abbrev pub ShowsSector : Option Told → ℕ → List ℕ → Type 0
ShowsSector None number bytes = Unit {0}
ShowsSector (Some t) number bytes = bytes ≡ t.shown number

-- a slot with the sound copy that belongs there, or else with the class of what is there
abbrev pub slot_of : Result SuperCopy Class → Slot
slot_of (Ok copy) = Sound copy
slot_of (Err class) = Bad class

-- what an image shows at a copy's place
abbrev pub slot_at : Image → ℕ → Slot
slot_at image number = slot_of (own_copy number (image number))

-- the slot is what is shown at this place, where the disk tells it
abbrev pub ShowsCopySlot : Option Told → ℕ → Slot → Type 0
ShowsCopySlot None number slot = Unit {0}
ShowsCopySlot (Some t) number slot = slot ≡ slot_at t.shown number

-- these four are what is shown at the four places
abbrev pub ShowsSlots : Option Told → List Slot → Type 0
ShowsSlots told slots = (n : ℕ) → n < 4 → ShowsCopySlot told n (get_or slots n nothing)

-- so they say what the places say
abbrev pub ShowsCopies : Option Told → List Slot → Type 0
ShowsCopies None slots = Unit {0}
ShowsCopies (Some t) slots = (n : ℕ) → n < 4 → copies_of slots n ≡ content_at t.shown n

-- ---- updates

-- the slot of this number holds a copy that belongs there and has these fields
abbrev pub SlotHolds : ℕ → Slot → SuperFields → Type 0
SlotHolds number slot f = (c : Content) × (content_in_copy (if_here number (copy_of slot)) ≡ Some c) × (c.fields ≡ f)

-- so the copy was read as it was written
abbrev pub IsCopyRead : List Slot → SuperFields → ℕ → Type 0
IsCopyRead slots f number = SlotHolds number (get_or slots number nothing) f

-- three or four copies were read as they were written
abbrev pub AreEnough : List Slot → SuperFields → Type 0
AreEnough slots f = (odd : ℕ) × ((n : ℕ) → n < 4 → n ≢ odd → IsCopyRead slots f n)

-- the class of a copy that isn't as it was written: a sound one is an older one
abbrev pub class_of_written_slot : Slot → Class
class_of_written_slot (Sound copy) = Stale
class_of_written_slot (Bad class) = class

-- the first of the copies from this number on that wasn't read as it was written
pub record IsFirstMissing (slots : List Slot) (f : SuperFields) (from first : ℕ) : Type 0 where
  pub behind : from ≤ first
  pub inside : first < 4
  pub missing : ¬ IsCopyRead slots f first
  pub read : (n : ℕ) → from ≤ n → n < first → IsCopyRead slots f n

-- two copies or more weren't, and the first of them has this place and this class
pub record IsDamaged (slots : List Slot) (f : SuperFields) (place : Place) (class : Class) : Type 0 where
  pub first : ℕ
  pub second : ℕ
  pub is : IsFirstMissing slots f 0 first
  pub apart : first < second
  pub inside : second < 4
  pub other : ¬ IsCopyRead slots f second
  pub place_is : place ≡ place_in Superblock first
  pub class_is : class ≡ class_of_written_slot (get_or slots first nothing)

-- what an update answers of the copies that it read back
abbrev pub IsUpdateVerdict : {T : Type 0} → List Slot → SuperFields → Result T UpdateError → Type 0
IsUpdateVerdict slots f (Ok x) = AreEnough slots f
IsUpdateVerdict slots f (Err (Damaged place class)) = IsDamaged slots f place class
IsUpdateVerdict slots f (Err DiskFault) = ⊥

-- it read four copies back, and this is what they are; over a disk that tells what it shows they are those shown there
pub record ReadsBack {T : Type 0} (told : Option Told) (f : SuperFields) (result : Result T UpdateError) : Type 0 where
  pub slots : List Slot
  pub shown : ShowsSlots told slots
  pub verdict : IsUpdateVerdict slots f result

-- an update adds all its events, or a part of them, from the first on, where the disk failed
abbrev pub AddsUpdate : {T : Type 0} → List Event → Option Told → Option Told → Result T UpdateError → Type 0
AddsUpdate events old new (Ok x) = new ≡ after_all events old
AddsUpdate events old new (Err (Damaged place class)) = new ≡ after_all events old
AddsUpdate events old new (Err DiskFault) = AddsPart events old new

-- the error that blames the disk
abbrev pub is_update_fault : UpdateError → Bool
is_update_fault DiskFault = true
is_update_fault (Damaged place class) = false

-- each answer but a fault comes from the copies that were read back
abbrev pub IsJudged : {T : Type 0} → Option Told → SuperFields → Result T UpdateError → Type 0
IsJudged {T = T} told f (Ok x) = ReadsBack {T = T} told f (Ok x)
IsJudged {T = T} told f (Err (Damaged place class)) = ReadsBack {T = T} told f (Err (Damaged place class))
IsJudged {T = T} told f (Err DiskFault) = Unit {0}

-- a disk that tells what it shows shows all that was written: nothing is damaged
abbrev pub IsUndamaged : {T : Type 0} → Option Told → Result T UpdateError → Type 0
IsUndamaged (Some t) (Err (Damaged place class)) = ⊥
IsUndamaged told result = Unit {0}

-- the four copies are shown as they were written
abbrev pub ShowsEqual : SuperFields → Option Told → Type 0
ShowsEqual f None = Unit {0}
ShowsEqual f (Some t) = AreEqual t.shown (content_with f)

-- at each moment of an update of four equal copies whatever a stop leaves has the old content chosen or the new one
abbrev pub UpdatesSafely : SuperFields → Option Told → Option Told → Type 0
UpdatesSafely f None new = Unit {0}
UpdatesSafely f (Some t) new = (old : Content) → MayUpdate t.log old (content_with f) → PassedTo t new (IsOldOrNew t.log old (content_with f))

-- the log that is told has this
abbrev pub TellsLog : Option Told → (Log → Type 0) → Type 0
TellsLog None P = Unit {0}
TellsLog (Some t) P = P t.log

-- at its end the four copies are equal
abbrev pub EndsEqual : SuperFields → Option Told → Type 0
EndsEqual f told = TellsLog told (λ log. AreEqual (now log) (content_with f))

-- ---- repairs

-- what is shown at the members' places stays
abbrev pub KeepsMembers : List Bool → Option Told → Option Told → Type 0
KeepsMembers members None new = Unit {0}
KeepsMembers members (Some t) None = ⊥
KeepsMembers members (Some t) (Some u) = (n : ℕ) → n < 4 → IsTrue (get_or members n false) → u.shown n ≡ t.shown n

-- at this moment whatever a stop leaves has the content chosen, unless it is misled
abbrev pub KeepsUnlessMisled : Log → Content → Log → Type 0
KeepsUnlessMisled entry c log = (image : Image) → IsLeft log image → ¬ IsMisled (content_at (now entry)) log c image → IsChosenContent (content_at image) c

-- with no word on the history: so it is at each moment, where none of the copies was being written
abbrev pub RepairsUnlessMisled : Chosen → Option Told → Option Told → Type 0
RepairsUnlessMisled chosen None new = Unit {0}
RepairsUnlessMisled chosen (Some t) new = (c : Content) → IsLog t.log → IsChoice (content_at (now t.log)) chosen c → AreQuiet t.log → PassedTo t new (KeepsUnlessMisled t.log c)

-- at its end the four copies are equal on the choice
abbrev pub EndsRepaired : Chosen → Option Told → Option Told → Type 0
EndsRepaired chosen None new = Unit {0}
EndsRepaired chosen (Some t) new = (c : Content) → IsLog t.log → IsChoice (content_at (now t.log)) chosen c → TellsLog new (λ log. AreEqual (now log) c)
