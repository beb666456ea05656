-- What the upgrade of a file answers, what it leaves of the file, and what it leaves where the disk failed in it.
use Rattle.std.specs.Prelude.{◌≡◌, ◌⊎◌, ℕ, List, Option, Some, Result, Ok, Err}
use Rattle.df_base.specs.{declared.TheConstants.{VERSION}, Image.{IsImage}, Log.{Event, Sync}, Moments.{EachMoment}}
use Rattle.df_disk.specs.Told.{Told, after, did}
use Rattle.df_layout.specs.declared.layout.Layout.{Layout}
use Rattle.df_theory.specs.{Found.{IsFound}, Next.{IsSameBare}, Upgrades.{as_version}, View.{View}}
use Rattle.df_units.specs.Bytes.{unit_at}
use Rattle.df_model.specs.{declared.errors.OpenError.{OpenError}, declared.errors.OpenError.TheVariants.{DiskFault}}
use Rattle.df_damage.specs.{Anew.{restarted, told_after}, Below.{State, shape}, Plan.{AreDistinctUnits}, Surveying.{TellsSurveyAs}, Surveys.{IsOpenedAs}}
use Rattle.df_rooms.specs.declared.rooms.Rooms.{Rooms}
use Rattle.df_opening.specs.Opened.{AreRaisingTo, BeginsRaisingTo, Mends, ToldBy}
use Rattle.df_upgrade.specs.{Base.{base_fields}, Old.{TellsHurtOld}, Upgrading.{UpgradeStaysBare, UpgradesAnew, upgraded}, declared.upgraded.Upgraded.{Upgraded}}

-- the sequence of the file, or the refusal
abbrev pub sequence_of : {R : Type 0} → Result Upgraded (R × OpenError) → Result ℕ OpenError
sequence_of (Ok x) = Ok x.sequence
sequence_of (Err refused) = Err refused.1

-- the rooms, which come back either way
abbrev pub rooms_of : {E : Type 0} → Result Upgraded (Rooms × E) → Rooms
rooms_of (Ok x) = x.rooms
rooms_of (Err refused) = refused.0

-- ---- the answer

-- it is that of what the disk shows, where it tells that: the refusal that a survey gives which asks for version 1, or the sequence of the state that it finds
abbrev pub TellsUpgraded : Layout → Option Told → Result ℕ OpenError → Type 0
TellsUpgraded layout told (Ok sequence) = (found : State) × TellsSurveyAs 1 layout told (Ok found) × (sequence ≡ found.fields.sequence)
TellsUpgraded layout told (Err e) = TellsSurveyAs 1 layout told (Err e)

-- and of a disk that may be hurt, so: that of a state that the file had, or a refusal because of what is hurt
abbrev pub TellsHurtUpgraded : Layout → Option Told → Result ℕ OpenError → Type 0
TellsHurtUpgraded layout told (Ok sequence) = (found : State) × (sequence ≡ found.fields.sequence) × TellsHurtOld layout told (Ok found)
TellsHurtUpgraded layout told (Err e) = TellsHurtOld layout told (Err e)

-- both
pub record AnswersUpgrade (layout : Layout) (told : Option Told) (result : Result ℕ OpenError) : Type 0 where
  pub answer : TellsUpgraded layout told result
  pub hurt : TellsHurtUpgraded layout told result

-- ---- what it leaves

-- these are the device calls of an upgrade after its survey: the file that is found is of version 1, and gets a superblock of version 2
abbrev pub AreUpgrading : Told → State → List Event → Type 0
AreUpgrading t found events = AreRaisingTo 1 (base_fields found) t found events

abbrev pub BeginsUpgrading : Told → State → Option Told → Type 0
BeginsUpgrading t found later = BeginsRaisingTo 1 (base_fields found) t found later

-- The file was found and is upgraded: what is told changed by these events alone, whose writes lie within the zones of the file, and each place that a call reads is as it was.
pub record UpgradesAll (layout : Layout) (t : Told) (sequence : ℕ) (later : Option Told) : Type 0 where
  pub found : State
  pub opened : IsImage t.shown → IsOpenedAs 1 layout t.shown found
  pub kept : sequence ≡ found.fields.sequence
  pub writes : Mends found.file (Some (did Sync t)) later
  pub own : IsImage t.shown → AreUpgrading t found writes.events
  pub anew : (view : View) → IsImage t.shown → IsFound (shape found.file) (unit_at found.file.layout found.file.cluster t.shown) view → AreDistinctUnits (unit_at found.file.layout found.file.cluster t.shown) → UpgradesAnew view found writes.events (restarted t)

-- the file was found, and the disk failed within its upgrade: at each moment whatever a stop leaves has the bare view
pub record UpgradesPartly (layout : Layout) (t : Told) (later : Option Told) : Type 0 where
  pub found : State
  pub opened : IsOpenedAs 1 layout t.shown found
  pub writes : Mends found.file (Some (did Sync t)) later
  pub own : IsImage t.shown → BeginsUpgrading t found later
  pub anew : (view : View) → IsImage t.shown → IsFound (shape found.file) (unit_at found.file.layout found.file.cluster t.shown) view → AreDistinctUnits (unit_at found.file.layout found.file.cluster t.shown)
      → EachMoment (restarted t).log (told_after writes.events (restarted t)).log (UpgradeStaysBare found.file view (base_fields found)) × IsSameBare (as_version VERSION view) (upgraded view (base_fields found))

-- it failed in the barrier, which added a sync or nothing, or in a read after it; or within the upgrade
abbrev pub StopsUpgrading : Layout → Told → Option Told → Type 0
StopsUpgrading layout t later = (later ≡ Some t) ⊎ (later ≡ Some (did Sync t)) ⊎ UpgradesPartly layout t later

-- what is told where it is done: the device calls alone after the barrier, by which the file is upgraded
pub record LeavesUpgraded (layout : Layout) (old new : Option Told) (sequence : ℕ) : Type 0 where
  pub told : ToldBy (after Sync old) new
  pub upgraded : (t : Told) → old ≡ Some t → UpgradesAll layout t sequence new

-- and with this refusal: the barrier alone, unless the disk failed, and then as much of all that as was done
pub record LeavesUnupgraded (layout : Layout) (old new : Option Told) (e : OpenError) : Type 0 where
  pub refused : (e ≡ DiskFault → ⊥) → new ≡ after Sync old
  pub stopped : (t : Told) → old ≡ Some t → IsImage t.shown → e ≡ DiskFault → StopsUpgrading layout t new

abbrev pub LeavesUpgrade : Layout → (old new : Option Told) → Result ℕ OpenError → Type 0
LeavesUpgrade layout old new (Ok sequence) = LeavesUpgraded layout old new sequence
LeavesUpgrade layout old new (Err e) = LeavesUnupgraded layout old new e
