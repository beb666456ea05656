-- What is kept of a file from call to call, and how much of it.
use Rattle.std.specs.Prelude.{ℕ, List, Option, Some, None}
use Rattle.df_base.specs.Log.{IsLog, Log, now}
use Rattle.df_disk.specs.Told.{Told}
use Rattle.df_theory.specs.{Units.{Parts, Units}, Shape.{Shape}, UnitLog.{UnitLog}, View.{View}, Holds.{Stands}, WholeLaws.{IsStanding}, Device.{Format, IsGoodDisk, IsGoodWholeDisk, units_log}}
use Rattle.df_units.specs.Format.{format_of}
use Rattle.df_journal.specs.Append.{ShowsRing}
use Rattle.df_model.specs.{Laws.{IsKeptBy}, Sense.{IsBacked, IsWork}, Work.{Work}}
use Rattle.df_damage.specs.Below.{DataFile, Represents, State, shape, spelling}

-- how much holds of a file: that nothing is to be mended, or that each block that it references is shown, too
pub data Grade : Type 0 where
  Firm : Grade
  Whole : Grade

abbrev pub KeptFor : Grade → Shape → (Parts → List ℕ) → UnitLog → Work → Type 0
KeptFor Firm sh spell log w = IsKeptBy sh spell log w
KeptFor Whole sh spell log w = IsKeptBy sh spell log w × IsBacked log w

abbrev pub IsGoodFor : Grade → Format → Shape → (v u : View) → Log → Type 0
IsGoodFor Firm f sh v u log = IsGoodDisk f sh v u log
IsGoodFor Whole f sh v u log = IsGoodWholeDisk f sh v u log

-- what is asked of an image for it: nothing, or that it shows each block that the view references
abbrev pub StandsFor : Grade → Units → View → Type 0
StandsFor Firm image v = Unit {0}
StandsFor Whole image v = Stands image v

-- of a log, that none of them is being written, too
abbrev pub StandingFor : Grade → UnitLog → View → Type 0
StandingFor Firm log v = Unit {0}
StandingFor Whole log v = IsStanding log v

abbrev pub format : DataFile → Format
format file = format_of file.layout file.cluster

-- the one fact that a session keeps from call to call: the replica stands for this state of the machine, and the file that the log leaves is that state's
pub record IsKept (g : Grade) (s : State) (w : Work) (log : Log) : Type 0 where
  pub log_is : IsLog log
  pub stands : Represents s w
  pub kept_by : KeptFor g (shape s.file) (spelling s.file) (units_log (format s.file) log) w
  pub ring : ShowsRing s.file.layout s.file.cluster (now log) s.headers

-- where the disk tells no log, that the state makes sense and the replica stands for it
abbrev pub Keeps : (g : Grade) (s : State) → Work → Option Told → Type 0
Keeps g s w None = IsWork (shape s.file) (spelling s.file) w × Represents s w
Keeps g s w (Some t) = IsKept g s w t.log
