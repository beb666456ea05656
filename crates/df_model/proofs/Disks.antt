-- The device calls of a command.
use Rattle.{std.proofs.Common.{ℕ, List, sym, subst}, df_base.specs.Log.{Event}}
use Rattle.df_base.specs.Log as Log
use Rattle.df_theory.{specs.{Units.{Parts, Units}, Shape.{Shape}, UnitLog.{UnitLog, now}, Device.{AreSteps, Format, IsFormat, units_log}}, proofs.Laws.{now_units, same_log, standing_moments_law, tidy_moments_law}}
use Rattle.df_theory.specs.Runs as runs
use Rattle.df_model.{specs.{Work.{Work, kept}, Sense.{IsBacked}, Laws.{BacksOn, DoesCommand, IsKeptBy, LeadsOn}, OnDisk.{BacksOnDisk, DiskCommandLaw, DoesOnDisk, LeadsOnDisk}, Commands.{Command, Given, after}}, proofs.Does.{command_law}}

does_there : (f : Format) (sh : Shape) (spell : Parts → List ℕ) (log : Log.Log) (w : Work) (given : Given) (command : Command) (events : List Event) (does : DoesOnDisk f sh spell log w given command events) → DoesCommand sh spell (now (units_log f log)) w given command does.steps
does_there f sh spell log w given command events does =
    subst (λ (image : Units). DoesCommand sh spell image w given command does.steps) (sym (now_units f log.start log.events)) does.does

-- what steps lead to, and what they leave of the blocks, their device calls do
pub on_disk : (f : Format) (sh : Shape) (spell : Parts → List ℕ) (log : Log.Log) (w u : Work) (steps : List runs.Step) (events : List Event)
    → IsFormat f → Log.IsLog log → AreSteps f events steps
    → LeadsOn sh spell (units_log f log) w u steps × (IsBacked (units_log f log) w → BacksOn sh (units_log f log) w u steps)
    → LeadsOnDisk f sh spell log w u events × (IsBacked (units_log f log) w → BacksOnDisk f sh log w u events)
on_disk f sh spell log w u steps events format is_log are on = let led : runs.Command = record { steps = steps; view = kept u } in
    let same = sym (same_log f events steps log is_log are) in (
      record {
        moments = (tidy_moments_law f sh (kept w) led log events format is_log are on.0.leads).0;
        keeps = rw same at on.0.keeps;
      },
      λ backed. record {
        moments = (standing_moments_law f sh (kept w) led log events format is_log are (on.1 backed).stands).0;
        backed = rw same at (on.1 backed).backed;
      },
    )

pub disk_command_law : DiskCommandLaw
disk_command_law f sh spell log w given command events format is_log input keeps does =
    on_disk f sh spell log w (after sh spell w given command).0 does.steps events format is_log does.are
    (command_law sh spell (units_log f log) w given command does.steps input keeps (does_there f sh spell log w given command events does))
