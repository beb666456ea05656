-- What an upgrade does after its survey, and what it leaves at each moment of that and at its end: of a log that is restarted at the barrier, whatever the copies showed there.
use Rattle.std.specs.Prelude.{◌≡◌, ◌⊎◌, List, Option, Result, OnOk}
use Rattle.df_base.specs.{declared.TheConstants.{VERSION}, Image.{Image, IsImage}, Log.{Event, IsLeft, Log, now}, Moments.{EachMoment}}
use Rattle.df_disk.specs.Told.{Told}
use Rattle.df_format.specs.{Copies.{content_with}, declared.superblock.SuperFields.{SuperFields}}
use Rattle.df_superblock.specs.{Calls.{AddsUpdate, EndsEqual, IsJudged, IsUndamaged, ShowsEqual}, Copies.{AreEqual}, Events.{update_events}, Steps.{AreStepsOfCopies}}
use Rattle.df_superblock.specs.declared.updates.UpdateError.{UpdateError}
use Rattle.df_theory.specs.{CopyPuts.{update_steps}, Device.{AreSteps, NoChanceOf}, Found.{IsClean, IsFound}, Holds.{IsWhole}, Next.{IsSameBare, booted}, Runs.{Step}, Upgrades.{as_version}}
use Rattle.df_theory.specs.View.{View}
use Rattle.df_model.specs.Result.{AgreeReads}
use Rattle.df_units.specs.{Bytes.{unit_at}, Meaning.{content_of}, Puts.{put_copies}}
use Rattle.df_damage.specs.{Anew.{IsStill, restarted, told_after}, Below.{DataFile, Represents, State, shape}, Plan.{AreDistinctUnits}}
use Rattle.df_opening.specs.{Keeping.{format}, Mending.{first_state, mending_events, mending_steps, raising_events, raising_steps}, Raising.{IsPlannedOf}, Survey.{Survey}}
use Rattle.df_upgrade.specs.Base.{base_fields}

-- ---- device calls

-- what is listed: header sectors and a sync, then the copies that aren't members, a sync after each
abbrev pub restoring_events : Survey → List Event
restoring_events s = mending_events s.state.file.layout s.state.headers s.mends s.state.fields s.chosen.members

abbrev pub restoring_steps : Survey → List Step
restoring_steps s = mending_steps s.state.file.layout s.state.headers s.mends s.state.fields s.chosen.members

-- and after that the four copies of version 2, a sync after each
abbrev pub upgrading_events : Survey → List Event
upgrading_events s = raising_events s.state.file.layout s.state.headers s.mends s.state.fields s.chosen.members (base_fields s.state)

abbrev pub upgrading_steps : Survey → List Step
upgrading_steps s = raising_steps s.state.file.layout s.state.headers s.mends s.state.fields s.chosen.members (base_fields s.state)

-- What the update with this superblock does: its device calls, which in the words of the theory put the four copies; what it reads back, of which a disk that tells what it shows is told of no damage;
-- and where it is done, the four copies are shown and left as they were written.
pub record UpdatesTo {T : Type 0} (f : SuperFields) (old new : Option Told) (result : Result T UpdateError) : Type 0 where
  pub events : AddsUpdate (update_events f) old new result
  pub steps : AreStepsOfCopies (update_events f) (update_steps (put_copies f))
  pub read_back : IsJudged new f result
  pub undamaged : IsUndamaged new result
  pub shown : OnOk result (ShowsEqual f new)
  pub equal : OnOk result (EndsEqual f new)

-- ---- what is left

-- the file, once it is of version 2
abbrev pub second : DataFile → DataFile
second file = record file { version = VERSION }

-- with this superblock
abbrev pub upgraded : View → SuperFields → View
upgraded v d = booted v (content_of (content_with d))

-- the image has the view, and shows at each prepare's slot, reply's slot and block what its log began with; and where it began with a clean start, the next log may begin here
pub record IsLeftByUpgrade (file : DataFile) (old view : View) (start image : Image) : Type 0 where
  pub found : IsFound (shape file) (unit_at file.layout file.cluster image) view
  pub reads : AgreeReads (unit_at file.layout file.cluster image) (unit_at file.layout file.cluster start)
  pub clean : IsClean (unit_at file.layout file.cluster start) old → IsClean (unit_at file.layout file.cluster image) view

-- at this moment each image that a stop may leave, none of whose units came about by chance, has the view as it was found, read by version 1, or with this superblock, read by version 2: the bare view is one
pub record UpgradeStaysBare (file : DataFile) (view : View) (d : SuperFields) (log : Log) : Type 0 where
  pub left : (image : Image) → IsLeft log image → NoChanceOf (format file) log image → IsLeftByUpgrade file view view log.start image ⊎ IsLeftByUpgrade (second file) view (upgraded view d) log.start image

-- at its end nothing is loose, the four copies are equal, of version 2 and of the first boot, nothing is left to mend, and an open finds the view, where the next log may begin
pub record EndsUpgraded (file : DataFile) (view : View) (d : SuperFields) (log : Log) : Type 0 where
  pub still : IsStill log
  pub equal : AreEqual (now log) (content_with d)
  pub version : d.version ≡ VERSION
  pub boot : d.boot ≡ 1
  pub whole : IsWhole (shape (second file)) (unit_at file.layout file.cluster (now log)) (upgraded view d)
  pub found : IsFound (shape (second file)) (unit_at file.layout file.cluster (now log)) (upgraded view d)
  pub clean : IsClean (unit_at file.layout file.cluster (now log)) (upgraded view d)

-- Over a base that is restarted, whatever its copies showed: at each moment of these events each image that is left has the bare view, and at their end the file is of version 2 with it.
pub record UpgradesAnew (view : View) (found : State) (events : List Event) (base : Told) : Type 0 where
  pub moments : EachMoment base.log (told_after events base).log (UpgradeStaysBare found.file view (base_fields found))
  pub bare : IsSameBare (as_version VERSION view) (upgraded view (base_fields found))
  pub ends : EndsUpgraded found.file view (base_fields found) (told_after events base).log

-- What an upgrade is in the words of the theory, and what it leaves of each log that is restarted at what was shown, and which the survey's list is planned of.
pub record UpgradesEach (s : Survey) : Type 0 where
  pub steps : AreSteps (format s.state.file) (upgrading_events s) (upgrading_steps s)
  pub anew : (base : Told) (view : View) → IsPlannedOf s (restarted base) → IsImage base.shown → IsFound (shape s.state.file) (unit_at s.state.file.layout s.state.file.cluster base.shown) view
      → AreDistinctUnits (unit_at s.state.file.layout s.state.file.cluster base.shown) → Represents s.state (first_state s.state.file base view) → UpgradesAnew view s.state (upgrading_events s) (restarted base)
