-- The device calls of a command: what a call of the replica owes, and what it then has.
use Rattle.std.specs.Prelude.{ℕ, List}
use Rattle.df_base.specs.{Log.{Event, IsLog, Log, now}, Moments.{EachMoment, adds}}
use Rattle.df_theory.specs.{Units.{Parts}, Shape.{Shape}, Runs.{Step}, Device.{AreSteps, Format, IsFormat, IsGoodDisk, IsGoodWholeDisk, units_log}}
use Rattle.df_model.specs.{Work.{Work, kept}, Laws.{DoesCommand, IsKeptBy}, Sense.{IsBacked}, Commands.{Command, Given, IsInput, after}}

-- these device calls, in order, are the steps of the command, over the image that the log leaves
pub record DoesOnDisk (f : Format) (sh : Shape) (spell : Parts → List ℕ) (log : Log) (w : Work) (given : Given) (command : Command) (events : List Event) : Type 0 where
  pub steps : List Step
  pub are : AreSteps f events steps
  pub does : DoesCommand sh spell (f.unit_at (now log)) w given command steps

-- at each moment of the calls each image left has the view before or after, and at the end the file is kept by the state after
pub record LeadsOnDisk (f : Format) (sh : Shape) (spell : Parts → List ℕ) (log : Log) (w u : Work) (events : List Event) : Type 0 where
  pub moments : EachMoment log (adds events log) (IsGoodDisk f sh (kept w) (kept u))
  pub keeps : IsKeptBy sh spell (units_log f (adds events log)) u

-- and each block that it references, where they were shown
pub record BacksOnDisk (f : Format) (sh : Shape) (log : Log) (w u : Work) (events : List Event) : Type 0 where
  pub moments : EachMoment log (adds events log) (IsGoodWholeDisk f sh (kept w) (kept u))
  pub backed : IsBacked (units_log f (adds events log)) u

abbrev pub DiskCommandLaw : Type 0
DiskCommandLaw =
    (f : Format) (sh : Shape) (spell : Parts → List ℕ) (log : Log) (w : Work) (given : Given) (command : Command) (events : List Event)
    → IsFormat f → IsLog log → IsInput given command → IsKeptBy sh spell (units_log f log) w → DoesOnDisk f sh spell log w given command events
    → LeadsOnDisk f sh spell log w (after sh spell w given command).0 events × (IsBacked (units_log f log) w → BacksOnDisk f sh log w (after sh spell w given command).0 events)
