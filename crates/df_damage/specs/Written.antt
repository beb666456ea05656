-- What was written at a place, and what a view needs of it.
use Rattle.std.specs.Prelude.{ℕ}
use Rattle.df_base.specs.{Log.{Log, Sync, add}, Moments.{Extends}}
use Rattle.df_disk.specs.Told.{Told}
use Rattle.df_theory.specs.{Chance.{Distinct, InPool, InPools}, Device.{units_log}, Holds.{Sound}, Shows.{Needs}, UnitLog.{UnitLog}, Units.{AnyUnit, Place}, View.{View}}
use Rattle.df_units.specs.Format.{format_of}
use Rattle.df_recovery.specs.{Surveys.{IsOpenedAs}, Below.{DataFile, State, shape}}
use Rattle.df_damage.specs.{Disks.{MayBeHurtAs}, Past.{WasHad}}

-- the unit was written at its place: it was settled there, or stood whole in a write, now or at an earlier moment of the log
abbrev pub IsWritten : UnitLog → Place → AnyUnit → Type 0
IsWritten log place x = InPools log.start log.events place x

-- the unit was settled at this place, or is being written there, and no other unit of its kind with its checksum was ever written anywhere
pub record IsTheOne (log : UnitLog) (place : Place) (x : AnyUnit) : Type 0 where
  pub there : InPool log place x
  pub only : (other : Place) (y : AnyUnit) → IsWritten log other y → Distinct y x

-- the view makes sense, and each unit that it needs was written at its place
pub record WasWritten (file : DataFile) (log : Log) (view : View) : Type 0 where
  pub sound : Sound (shape file) view
  pub needs : (place : Place) (x : AnyUnit) → Needs (shape file) view place x → IsWritten (units_log (format_of file.layout file.cluster) log) place x

-- so it is with a view that the file had, however its log went on
abbrev pub HadIsWritten : Type 0
HadIsWritten = (file : DataFile) (log later : Log) (view : View) → WasHad file log view → Extends later log → WasWritten file later view

-- and so with the one that an open finds on a disk that may be hurt, however the log went on after its barrier
abbrev pub OpenedIsWritten : Type 0
OpenedIsWritten =
    (version : ℕ) (file : DataFile) (view : View) (t : Told) (s : State) (later : Log) → MayBeHurtAs version file view t → (is : IsOpenedAs version file.layout t.shown s) → Extends later (add Sync t.log) → WasWritten s.file later is.view
