-- What an open does after its survey: it mends, and raises the boot; and what it leaves at each moment of that, by each log on which the plan rests.
use Rattle.std.specs.Prelude.{◌≡◌, List, ◌∷◌}
use Rattle.df_base.specs.{Image.{IsImage}, Log.{Event, Log}, Moments.{EachMoment}}
use Rattle.df_disk.specs.Told.{Told}
use Rattle.df_format.specs.Copies.{content_with}
use Rattle.df_theory.specs.{Device.{AreSteps}, Found.{IsFound}, Next.{IsSameBare, booted}, Runs.{Step}, Units.{Content}, View.{View}}
use Rattle.df_history.specs.OpenLaws.{BeginsHistory}
use Rattle.df_units.specs.{Bytes.{unit_at}, Meaning.{content_of}}
use Rattle.df_damage.specs.{Anew.{restarted, told_after}, Histories.{HasLived, LivesOn}, Plan.{AreDistinctUnits}, Below.{AreWhole, Parts, Represents, State, boot_fields, shape, state_in}}
use Rattle.df_opening.specs.Keeping.{Grade, IsGoodFor, IsKept, StandsFor, format}
use Rattle.df_opening.specs.{Mending.{IsMended, IsPlanned, RestsOnDisk, StaysFound, begun_state, first_state, raised_state, raising_events, raising_steps}, Survey.{Survey}}

-- the superblock that an open writes of a state that was found
abbrev pub raised_content : State → Content
raised_content s = content_of (content_with (boot_fields s))

-- its device calls
abbrev pub opening_events : Survey → List Event
opening_events s = raising_events s.state.file.layout s.state.headers s.mends s.state.fields s.chosen.members (boot_fields s.state)

-- in the words of the theory
abbrev pub opening_steps : Survey → List Step
opening_steps s = raising_steps s.state.file.layout s.state.headers s.mends s.state.fields s.chosen.members (boot_fields s.state)

-- the survey's list is planned of what this base shows
abbrev pub IsPlannedOf : Survey → Told → Type 0
IsPlannedOf s t = IsPlanned s.state.file s.state.headers s.mends s.state.fields s.chosen.members t

-- In one log on which the view rests: each moment has the view that was found or the raised one, whose bare view is the same, and at the end the file is tidy with that. Where the log is the newest of a
-- lived history, that is lived at each moment, and at the end the boot is raised.
pub record RaisesOver (g : Grade) (view : View) (s : Survey) (base : Told) : Type 0 where
  pub moments : EachMoment base.log (told_after (opening_events s) base).log (IsGoodFor g (format s.state.file) (shape s.state.file) view (booted view (raised_content s.state)))
  pub bare : IsSameBare view (booted view (raised_content s.state))
  pub raised : IsMended g s.state.file (booted view (raised_content s.state)) s.state.headers (told_after (opening_events s) base)
  pub kept_for : IsKept g (raised_state s.state) (begun_state s.state.file base view (boot_fields s.state)) (told_after (opening_events s) base).log
  pub lived : (before : Log) (older : List Log) → HasLived s.state.file (base.log ∷ before ∷ older) → LivesOn s.state.file before older base.log (told_after (opening_events s) base).log

-- In a log that is restarted at what was shown, whatever the copies showed: at each moment each image that is left has the bare view, one that is restarted after it is kept, and a history
-- may begin there.
pub record RaisesAnew (g : Grade) (view : View) (s : Survey) (base : Told) : Type 0 where
  pub moments : EachMoment base.log (told_after (opening_events s) base).log (StaysFound g s.state.file view (boot_fields s.state))
  pub bare : IsSameBare view (booted view (raised_content s.state))
  pub kept_for : IsKept g (raised_state s.state) (begun_state s.state.file base view (boot_fields s.state)) (restarted (told_after (opening_events s) base)).log
  pub begins : BeginsHistory (shape s.state.file) (unit_at s.state.file.layout s.state.file.cluster (told_after (opening_events s) base).shown)

-- what its device calls are in the words of the theory, and what they leave: of each log that shows what was planned of, and on which a view rests; and of one that is restarted at what was shown
pub record RaisesEach (s : Survey) : Type 0 where
  pub steps : AreSteps (format s.state.file) (opening_events s) (opening_steps s)
  pub over : (base : Told) (g : Grade) (view : View) → IsPlannedOf s base → RestsOnDisk g s.state.file view base → Represents s.state (first_state s.state.file base view) → RaisesOver g view s base
  pub anew : (base : Told) (g : Grade) (view : View) → IsPlannedOf s (restarted base) → IsImage base.shown → IsFound (shape s.state.file) (unit_at s.state.file.layout s.state.file.cluster base.shown) view
      → AreDistinctUnits (unit_at s.state.file.layout s.state.file.cluster base.shown) → StandsFor g (unit_at s.state.file.layout s.state.file.cluster base.shown) view
      → Represents s.state (first_state s.state.file base view) → RaisesAnew g view s (restarted base)

-- what it hands out of a state that was found: parts on which calls may be made, with that state after the boot update
pub record AreRaised (found : State) (parts : Parts) : Type 0 where
  pub whole : AreWhole parts
  pub state : state_in parts ≡ raised_state found
