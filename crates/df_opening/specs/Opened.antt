-- What an open leaves of a file, and what it leaves where the disk failed in it.
use Rattle.std.specs.Prelude.{◌≡◌, ◌⊎◌, ◌<◌, ℕ, true, List, ◌∷◌, ◌++◌, Option, Some, Result, Ok, Err}
use Rattle.df_base.specs.{Image.{Image, IsImage}, Log.{Event, Log, Sync, add}, Moments.{EachMoment}}
use Rattle.df_disk.specs.{Told.{Told, after, did}, Adds.{AddsPart, after_all}}
use Rattle.df_layout.specs.{declared.damage.Mend.{Mend}, declared.layout.Layout.{Layout}}
use Rattle.df_quorum.specs.declared.choice.Chosen.{Chosen}
use Rattle.df_format.specs.{Copies.{content_with}, declared.superblock.SuperFields.{SuperFields}}
use Rattle.df_damage.specs.{Anew.{restarted, told_after}, Answers.{TellsHurt}, Histories.{IsLivedDisk, LivesOn, MayReopen, TellsLived}}
use Rattle.df_damage.specs.{Below.{AreWhole, DataFile, Parts, State, boot_fields, shape, state_in}, Plan.{AreDistinctUnits}, Surveys.{IsOpenedAs}}
use Rattle.df_history.specs.OpenLaws.{BeginsHistory}
use Rattle.df_theory.specs.{Found.{IsFound}, Units.{CopyPlace, CopyUnit}, Next.{IsSameBare}, View.{View}}
use Rattle.df_units.specs.{Bytes.{unit_at}, Within.{AreWithin}, Meaning.{content_of}}
use Rattle.df_superblock.specs.Events.{update_events}
use Rattle.df_model.specs.{Work.{kept}, declared.errors.MendError.{MendError}, declared.errors.OpenError.{OpenError}}
use Rattle.df_model.specs.declared.errors.MendError.TheVariants as mend
use Rattle.df_model.specs.declared.errors.OpenError.TheVariants as opens
use Rattle.df_opening.specs.{Following.{MayOpen}, Sparing.{AreSettled, SparesReads, image_after}, Mending.{IsMended, raising_events}, Keeping.{Grade, IsGoodFor, IsKept, StandsFor, format}}
use Rattle.df_opening.specs.Surveying.{IsMendable, TellsSurvey}
pub use Rattle.df_opening.specs.Mending.{StaysFound, begun_state, first_state, raised_state}

-- what the disk tells changed by events alone
abbrev pub ToldBy : (old new : Option Told) → Type 0
ToldBy old new = (events : List Event) × (new ≡ after_all events old)

-- What an open leaves of a base, after the barrier, the mending and the boot update: each moment since has the view that was found or the raised one, whose bare view is the same, and at the end the
-- file is tidy with that and kept for the state that calls begin with, and no block of its checkpoint is loose.
pub record OpensOver (g : Grade) (view : View) (s : State) (base n : Told) : Type 0 where
  pub moments : EachMoment (did Sync base).log n.log (IsGoodFor g (format s.file) (shape s.file) view (kept (begun_state s.file base view s.fields)))
  pub bare : IsSameBare view (kept (begun_state s.file base view s.fields))
  pub mended : IsMended g s.file (kept (begun_state s.file base view s.fields)) s.headers n
  pub kept_for : IsKept g s (begun_state s.file base view s.fields) n.log
  pub settled : AreSettled s.file n.log (begun_state s.file base view s.fields)

-- a history of logs may begin with a file in this image: all its units are of earlier boots than its superblock
abbrev pub HistoryBegins : DataFile → Image → Type 0
HistoryBegins file image = BeginsHistory (shape file) (unit_at file.layout file.cluster image)

-- What it leaves of a log that is restarted at the barrier, whatever the copies showed: at each moment each image has the bare view that was found; and after it calls go on
-- from there, where a log is restarted once more, and a history, too.
pub record OpensAnew (g : Grade) (view : View) (s : State) (base n : Told) : Type 0 where
  pub moments : EachMoment (restarted base).log n.log (StaysFound g s.file view s.fields)
  pub bare : IsSameBare view (kept (begun_state s.file base view s.fields))
  pub kept_for : IsKept g s (begun_state s.file base view s.fields) (restarted n).log
  pub begins : HistoryBegins s.file n.shown

-- A mending of a file, or as much of it as was done: what is told changed by these events alone, whose writes lie within the zones of the file, and whatever is shown they
-- leave each place that a call reads as it was.
pub record Mends (file : DataFile) (old new : Option Told) : Type 0 where
  pub events : List Event
  pub told : new ≡ after_all events old
  pub within : AreWithin file.layout events
  pub spares : (image : Image) → IsImage image → SparesReads file image (image_after events image)

-- These are the device calls by which the file that is found in what was shown, where this version is asked for, gets this superblock: what is planned of it alone is mended, each call is made once, and in this order: the
-- header sectors that the list has a slot of, from the table, and a sync, where there is one; then the copies that aren't members of the choice, each with a sync; then the four copies of this superblock, each with a sync.
pub record AreRaisingTo (version : ℕ) (d : SuperFields) (t : Told) (found : State) (events : List Event) : Type 0 where
  pub opened : IsOpenedAs version found.file.layout t.shown found
  pub chosen : Chosen
  pub mends : List Mend
  pub planned : IsMendable found.file.layout t.shown (record { state = found; chosen = chosen; mends = mends })
  pub are : events ≡ raising_events found.file.layout found.headers mends found.fields chosen.members d

-- they were begun: the first of them were made, and no others
pub record BeginsRaisingTo (version : ℕ) (d : SuperFields) (t : Told) (found : State) (later : Option Told) : Type 0 where
  pub events : List Event
  pub own : AreRaisingTo version d t found events
  pub part : AddsPart events (Some (did Sync t)) later

-- an image is mended in one way, whatever is taken for what was found: two such lists differ at most in the superblock that they end with
abbrev pub OneMending : Type 0
OneMending =
    (version : ℕ) (d e : SuperFields) (t : Told) (s u : State) (es ds : List Event) → AreRaisingTo version d t s es → AreRaisingTo version e t u ds
    → (mending : List Event) × (es ≡ mending ++ update_events d) × (ds ≡ mending ++ update_events e)

-- those of an open: the superblock has the next boot
abbrev pub AreRaising : Told → State → List Event → Type 0
AreRaising t found events = AreRaisingTo 2 (boot_fields found) t found events

abbrev pub BeginsRaising : Told → State → Option Told → Type 0
BeginsRaising t found later = BeginsRaisingTo 2 (boot_fields found) t found later

-- The file was found in what was shown, mended and raised, and then each copy shows the superblock that was written: so it is by each log that shows what the disk showed, and by which the file
-- may be opened, the told one or one that is restarted there; and whatever its copies showed, by the log that is restarted there. Whatever history
-- of damage and opens the file has, it is lived with that log at each moment, and at the end its boot is raised.
pub record MendsAll (t : Told) (s : State) (later : Option Told) : Type 0 where
  pub found : State
  pub opened : IsImage t.shown → IsOpenedAs 2 found.file.layout t.shown found
  pub raised : s ≡ raised_state found
  pub mending : Mends s.file (Some (did Sync t)) later
  pub own : IsImage t.shown → AreRaising t found mending.events
  pub copies : IsImage t.shown → (n : ℕ) → n < 4 → unit_at s.file.layout s.file.cluster (image_after mending.events t.shown) (CopyPlace n) ≡ Some (CopyUnit (content_of (content_with s.fields)))
  pub over : (g : Grade) (view : View) (base : Told) → base.shown ≡ t.shown → MayOpen s.file view base → StandsFor g (unit_at s.file.layout s.file.cluster t.shown) view
      → OpensOver g view s base (told_after mending.events (did Sync base))
  pub anew : (g : Grade) (view : View) → IsImage t.shown → IsFound (shape s.file) (unit_at s.file.layout s.file.cluster t.shown) view → AreDistinctUnits (unit_at s.file.layout s.file.cluster t.shown)
      → StandsFor g (unit_at s.file.layout s.file.cluster t.shown) view → OpensAnew g view s t (told_after mending.events (restarted t))
  pub lived : (log : Log) (logs : List Log) → MayReopen s.file log logs t.shown → LivesOn s.file (add Sync log) logs (did Sync (restarted t)).log (told_after mending.events (did Sync (restarted t))).log

-- the file was found, and the disk failed within its mending or its boot update: at each moment whatever a stop leaves has the view that was found or the raised one, by each of these logs; and the history is lived with the new one
pub record MendsPartly (layout : Layout) (t : Told) (later : Option Told) : Type 0 where
  pub found : State
  pub opened : IsOpenedAs 2 layout t.shown found
  pub mending : Mends found.file (Some (did Sync t)) later
  pub own : IsImage t.shown → BeginsRaising t found later
  pub moments : (g : Grade) (view : View) (base : Told) → base.shown ≡ t.shown → MayOpen found.file view base → StandsFor g (unit_at found.file.layout found.file.cluster t.shown) view
      → EachMoment (did Sync base).log (told_after mending.events (did Sync base)).log (IsGoodFor g (format found.file) (shape found.file) view (kept (begun_state found.file base view (boot_fields found))))
      × IsSameBare view (kept (begun_state found.file base view (boot_fields found)))
  pub anew : (g : Grade) (view : View) → IsImage t.shown → IsFound (shape found.file) (unit_at found.file.layout found.file.cluster t.shown) view → AreDistinctUnits (unit_at found.file.layout found.file.cluster t.shown)
      → StandsFor g (unit_at found.file.layout found.file.cluster t.shown) view → EachMoment (restarted t).log (told_after mending.events (restarted t)).log (StaysFound g found.file view (boot_fields found))
  pub lived : (log : Log) (logs : List Log) → MayReopen found.file log logs t.shown → EachMoment (did Sync (restarted t)).log (told_after mending.events (did Sync (restarted t))).log (IsLivedDisk found.file (add Sync log ∷ logs))

-- it failed in the barrier, which added a sync or nothing, or in a read after it; or within the mending
abbrev pub StopsOpening : Layout → Told → Option Told → Type 0
StopsOpening layout t later = (later ≡ Some t) ⊎ (later ≡ Some (did Sync t)) ⊎ MendsPartly layout t later

-- what an open answers where the mending or the boot update failed
abbrev pub refusal_of : MendError → OpenError
refusal_of (mend.Damaged place class) = opens.Damaged place class
refusal_of mend.DiskFault = opens.DiskFault

-- the answer is that of what the disk shows, where it tells that: the refusal that a survey gives, or the state after the boot update of the one that it finds
abbrev pub TellsOpened : Layout → Option Told → Result State OpenError → Type 0
TellsOpened layout told (Ok s) = (found : State) × TellsSurvey layout told (Ok found) × (s ≡ raised_state found)
TellsOpened layout told (Err e) = TellsSurvey layout told (Err e)

-- and of a disk that may be hurt, so: the state after the boot update of one that the file had, or a refusal because of what is hurt
abbrev pub TellsHurtOpened : Layout → Option Told → Result State OpenError → Type 0
TellsHurtOpened layout told (Ok s) = (found : State) × (s ≡ raised_state found) × TellsHurt layout told (Ok found)
TellsHurtOpened layout told (Err e) = TellsHurt layout told (Err e)

-- and after damage before any number of opens, so: the state after the boot update of one that the file had since the last of them that raised its boot
abbrev pub TellsLivedOpened : Layout → Option Told → Result State OpenError → Type 0
TellsLivedOpened layout told (Ok s) = (found : State) × (s ≡ raised_state found) × TellsLived layout told (Ok found)
TellsLivedOpened layout told (Err e) = TellsLived layout told (Err e)

-- ---- the three ways in which an open is told of

-- what it answers, by what the disk shows, on one that was hurt, and on one that was hurt before other opens
pub record AnswersOpen (layout : Layout) (told : Option Told) (result : Result State OpenError) : Type 0 where
  pub answer : TellsOpened layout told result
  pub hurt : TellsHurtOpened layout told result
  pub lived : TellsLivedOpened layout told result

-- what it hands out: parts of this layout, on which calls may be made
pub record AreOpened (layout : Layout) (parts : Parts) : Type 0 where
  pub whole : AreWhole parts
  pub kept : (state_in parts).file.layout ≡ layout
  pub live : (state_in parts).live ≡ true

-- what it leaves told with this state: its device calls alone after the barrier, by which the file is mended and raised
pub record LeavesOpened (old new : Option Told) (s : State) : Type 0 where
  pub told : ToldBy (after Sync old) new
  pub opened : (t : Told) → old ≡ Some t → MendsAll t s new

-- and with this refusal: the barrier alone, unless the disk failed, and then as much of all that as was done
pub record LeavesRefused (layout : Layout) (old new : Option Told) (e : OpenError) : Type 0 where
  pub refused : (e ≡ opens.DiskFault → ⊥) → new ≡ after Sync old
  pub stopped : (t : Told) → old ≡ Some t → IsImage t.shown → e ≡ opens.DiskFault → StopsOpening layout t new

abbrev pub LeavesOpen : Layout → (old new : Option Told) → Result State OpenError → Type 0
LeavesOpen layout old new (Ok s) = LeavesOpened old new s
LeavesOpen layout old new (Err e) = LeavesRefused layout old new e
