-- A file that was damaged before any number of opens: its logs, each restarted at what an open found, and what an open finds then.
use Rattle.std.specs.Prelude.{◌≡◌, ℕ, List, [], ◌∷◌, Option, Some, Result, Ok, Err}
use Rattle.df_base.specs.{declared.TheConstants.{VERSION}, Image.{Image, IsImage, changed}, Log.{AreLoose, Log, Stop, Sync, add, now}, Moments.{EachMoment, Extends}}
use Rattle.df_disk.specs.Told.{Told}
use Rattle.df_layout.specs.declared.layout.Layout.{Layout}
use Rattle.df_model.specs.{Work.{opened}, declared.errors.OpenError.{OpenError}}
use Rattle.df_theory.specs.{Device.{IsSafeDisk, NoChanceOf, units_log}, Found.{IsFound}, Holds.{Held}, UnitLog.{UnitLog}, View.{View}}
use Rattle.df_history.specs.{Awakened.{IsAwakened}, Histories.{IsLived, MayHurtCopies, NoChanceOver, WasSince}, OpenLaws.{BeginsHistory}}
use Rattle.df_units.specs.{Bytes.{unit_at}, Format.{format_of}}
use Rattle.df_recovery.specs.{Found.{IsLayoutShownAs}, Surveys.{IsOpenedAs}, Below.{DataFile, Represents, State, shape}}
use Rattle.df_damage.specs.Anew.{MayRestart}

-- ---- histories

-- a log of a file's disk, and logs of it, read as logs of units
abbrev pub unit_log_in : DataFile → Log → UnitLog
unit_log_in file log = units_log (format_of file.layout file.cluster) log

abbrev pub units_logs : DataFile → List Log → List UnitLog
units_logs file [] = []
units_logs file (log ∷ logs) = unit_log_in file log ∷ units_logs file logs

-- these are the logs of the file, the newest first: each grew, and each later one was restarted at what an open found
abbrev pub HasLived : DataFile → List Log → Type 0
HasLived file logs = IsLived (shape file) (units_logs file logs)

-- What a disk shows after these logs, at the barrier of an open, is what a next log may start with: no unit came about by chance, and at most two superblock copies are hurt, none where the four weren't equal. What else is
-- hurt doesn't matter.
pub record MayReopen (file : DataFile) (log : Log) (logs : List Log) (image : Image) : Type 0 where
  pub version : file.version ≡ VERSION
  pub lived : HasLived file (add Sync log ∷ logs)
  pub whole : IsImage image
  pub chance : NoChanceOver (units_logs file (add Sync log ∷ logs)) (unit_at file.layout file.cluster image)
  pub copies : MayHurtCopies (unit_at file.layout file.cluster (now log)) (unit_at file.layout file.cluster image)

-- a moment of the newest log: with it the history is lived, and so it is after a sync and after any stop
pub record IsLivedDisk (file : DataFile) (logs : List Log) (log : Log) : Type 0 where
  pub lived : HasLived file (log ∷ logs)
  pub synced : HasLived file (add Sync log ∷ logs)
  pub stopped : (changes : List (ℕ × List ℕ)) → AreLoose log.events changes → NoChanceOf (format_of file.layout file.cluster) log (changed changes (now log)) → HasLived file (add (Stop changes) log ∷ logs)

-- the log was restarted after these, and its boot was raised since
abbrev pub HasRaised : DataFile → (log before : Log) → List Log → Type 0
HasRaised file log before logs = IsAwakened (shape file) (unit_log_in file log) (unit_log_in file before) (units_logs file logs)

-- What follows after the barrier of an open keeps the history lived at each moment, and at the end the boot of the newest log is raised.
pub record LivesOn (file : DataFile) (before : Log) (older : List Log) (entry exit : Log) : Type 0 where
  pub moments : EachMoment entry exit (IsLivedDisk file (before ∷ older))
  pub raised : HasRaised file exit before older

-- ---- what an open finds

-- a view was had since the last open that raised its boot, that open's own log included
abbrev pub WasHadSince : DataFile → List Log → View → Type 0
WasHadSince file logs view = WasSince (shape file) (units_logs file logs) view

-- a state that is found: it is of this file, and stands for the view that is found in what is shown; the file had that since the last open that raised its boot, and a log may be restarted there
pub record FindsSince (file : DataFile) (log : Log) (logs : List Log) (image : Image) (s : State) : Type 0 where
  pub of : s.file ≡ file
  pub found : View
  pub is_found : IsFound (shape file) (unit_at file.layout file.cluster image) found
  pub stands : Represents s (opened (shape file) (unit_at file.layout file.cluster image) found)
  pub since : WasHadSince file (add Sync log ∷ logs) found
  pub begins : MayRestart file found image

-- so it is of each state that an open finds after a history
abbrev pub FoundWasSince : Type 0
FoundWasSince = (file : DataFile) (log : Log) (logs : List Log) (image : Image) (s : State) → MayReopen file log logs image → IsOpenedAs 2 file.layout image s → FindsSince file log logs image s

-- and a look at the copies alone finds the file's layout
abbrev pub LayoutStays : Type 0
LayoutStays = (file : DataFile) (log : Log) (logs : List Log) (image : Image) → MayReopen file log logs image → (shown : Layout) → IsLayoutShownAs 2 image shown → shown ≡ file.layout

-- the answer of an open with rooms of the file's layout: nothing is said here of a refusal
abbrev pub AnswersLived : DataFile → Log → List Log → Image → Result State OpenError → Type 0
AnswersLived file log logs image (Ok s) = FindsSince file log logs image s
AnswersLived file log logs image (Err e) = Unit {0}

-- so a survey with rooms of this layout answers, where the disk tells what it shows, whatever the file's history is
abbrev pub TellsLived : Layout → Option Told → Result State OpenError → Type 0
TellsLived layout told result = (file : DataFile) (t : Told) (log : Log) (logs : List Log) → told ≡ Some t → layout ≡ file.layout → MayReopen file log logs t.shown → AnswersLived file log logs t.shown result

-- ---- how a history goes on

-- it begins with a log from an empty disk, or from one as an upgrade leaves it, and is lived wherever that is safe
abbrev pub FirstGoesOn : Type 0
FirstGoesOn = (file : DataFile) (log : Log) → IsSafeDisk (format_of file.layout file.cluster) (shape file) log → BeginsHistory (shape file) (unit_at file.layout file.cluster log.start) → IsLivedDisk file [] log

-- it goes on with a log that is restarted at what an open finds
abbrev pub BegunGoesOn : Type 0
BegunGoesOn =
    (file : DataFile) (view : View) (log : Log) (logs : List Log) (image : Image) → MayReopen file log logs image → IsFound (shape file) (unit_at file.layout file.cluster image) view
    → IsLivedDisk file (add Sync log ∷ logs) (record { start = image; events = [] })

-- it goes on after an open that raised the boot: it is lived wherever the newest log is safe, whatever was done in between
abbrev pub RaisedGoesOn : Type 0
RaisedGoesOn =
    (file : DataFile) (log later before : Log) (logs : List Log) → HasRaised file log before logs → HasLived file (before ∷ logs) → Extends later log → IsSafeDisk (format_of file.layout file.cluster) (shape file) later
    → IsLivedDisk file (before ∷ logs) later

-- and it goes on after a stop at any moment at which the newest log was safe, wherever that fell: within an open, too
abbrev pub StoppedGoesOn : Type 0
StoppedGoesOn =
    (file : DataFile) (view : View) (log before : Log) (logs : List Log) (changes : List (ℕ × List ℕ)) → IsSafeDisk (format_of file.layout file.cluster) (shape file) log → IsLivedDisk file (before ∷ logs) log → AreLoose log.events changes
    → NoChanceOf (format_of file.layout file.cluster) log (changed changes (now log)) → Held (shape file) (unit_at file.layout file.cluster (changed changes (now log))) view → IsLivedDisk file (before ∷ logs) (add (Stop changes) log)
