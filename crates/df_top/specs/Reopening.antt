-- What a word does with a file that was damaged before any number of opens.
use Rattle.std.proofs.Common.{inl, inr}
use Rattle.std.specs.Prelude.{◌≡◌, ◌⊎◌, List, [], ◌∷◌, Option, Some}
use Rattle.df_base.specs.{Image.{Image}, Log.{Event, IsLeft, Log, Sync, add}, Moments.{EachMoment}}
use Rattle.df_disk.specs.{Adds.{AddsPart, after_all}, Told.{Told, did}}
use Rattle.df_layout.specs.declared.layout.Layout.{Layout}
use Rattle.df_theory.specs.{Device.{IsSafeDisk, NoChanceOf}, Holds.{Held}, View.{View}}
use Rattle.df_session.specs.{Below.{DataFile, FindsSince, IsLivedDisk, MayReopen, restarted, shape, told_after}, Serving.{format}}
use Rattle.df_top.specs.{Outside.{Outside}, Run.{ComesTo, DidNothing, Does, RefusesSuperblock}, declared.mode.Mode.{Mode}, declared.status.Status.{Status}}

-- ---- the history goes on

-- a moment: the log is safe, whatever a stop leaves now, under no chance, has a view, and the history is lived with it
pub record IsLivedFile (file : DataFile) (logs : List Log) (log : Log) : Type 0 where
  pub safe : IsSafeDisk (format file) (shape file) log
  pub left : (image : Image) → IsLeft log image → NoChanceOf (format file) log image → (view : View) × Held (shape file) ((format file).unit_at image) view
  pub lived : IsLivedDisk file logs log

-- a log was restarted at the barrier of an open, and these events followed: so it is at each moment of them
pub record LivesThrough (file : DataFile) (log : Log) (logs : List Log) (t : Told) (later : Option Told) : Type 0 where
  pub events : List Event
  pub told : later ≡ after_all events (Some (did Sync t))
  pub moments : EachMoment (did Sync (restarted t)).log (told_after events (did Sync (restarted t))).log (IsLivedFile file (add Sync log ∷ logs))

-- or nothing but the sync of a barrier was added, and the history is as it was
abbrev pub StaysLived : DataFile → Log → List Log → Told → Option Told → Type 0
StaysLived file log logs t later = AddsPart (Sync ∷ []) (Some t) later ⊎ LivesThrough file log logs t later

-- ---- a word

-- the state that it finds is one that the file had since the last open that raised its boot
abbrev pub ComesSince : (file : DataFile) → (log : Log) → (logs : List Log) → (t : Told) → (layout : Layout) → (mode : Mode) → (old new : Outside) → (status : Status) → ComesTo mode layout t old new status → Type 0
ComesSince file log logs t layout mode old new status (inl refuses) = Unit {0}
ComesSince file log logs t layout mode old new status (inr (inl fails)) = Unit {0}
ComesSince file log logs t layout mode old new status (inr (inr works)) = FindsSince file log logs t.shown works.0.found

abbrev pub IsSince : (file : DataFile) → (log : Log) → (logs : List Log) → (t : Told) → (layout : Layout) → (mode : Mode) → (old new : Outside) → (status : Status) → Does mode layout t old new status → Type 0
IsSince file log logs t layout mode old new status does = ComesSince file log logs t layout mode old new status does.1

-- it does something, whatever it finds is that, and the history goes on
pub record ServesSince (file : DataFile) (log : Log) (logs : List Log) (t : Told) (mode : Mode) (old new : Outside) (status : Status) : Type 0 where
  pub does : Does mode file.layout t old new status
  pub since : IsSince file log logs t file.layout mode old new status does
  pub lived : StaysLived file log logs t new.told

-- in rooms of the file's layout, whatever history the file has
abbrev pub ServesOverHistory : Mode → Layout → Outside → Outside → Status → Type 0
ServesOverHistory mode layout old new status = (file : DataFile) (t : Told) (log : Log) (logs : List Log) → layout ≡ file.layout → old.told ≡ Some t → MayReopen file log logs t.shown → ServesSince file log logs t mode old new status

-- ---- the program

-- memory was wanting or the disk failed in the first reads, or the superblock is refused, with nothing written; or the word is carried out
abbrev pub RunsOverHistory : Mode → Outside → Outside → Status → Type 0
RunsOverHistory mode old new status = (file : DataFile) (t : Told) (log : Log) (logs : List Log) → old.told ≡ Some t → MayReopen file log logs t.shown
    → DidNothing old new status ⊎ RefusesSuperblock t old new status ⊎ ServesSince file log logs t mode old new status
