-- The calls of a script with the work beside it, and those of a generated run.
use Rattle.std.specs.Prelude.{ℕ, Option}
use Rattle.df_disk.specs.Told.{Told}
use Rattle.df_pace.specs.declared.pace.Pace.{Pace}
use Rattle.df_session.specs.{Below.{State as Replica}, Links.{CallsMade}}
use Rattle.df_workload.specs.declared.state.State.{State as Run}
use Rattle.df_top.specs.{Lines.{act_of, exchanges_in}, Pacing.{all_calls}, Session.{Ended, SessionState}, Works.{Worked}, declared.status.Status.{Status}}

-- those of a script
abbrev pub script_calls : {pace : Pace} {bound : ℕ} {origin now : SessionState} {status : Status} → Ended pace bound origin now status → CallsMade
script_calls {pace = pace} {origin = origin} {now = now} {status = status} ended = record {
  from = origin.replica;
  to = now.replica;
  old = origin.outside.told;
  new = now.outside.told;
  exchanges = exchanges_in ended.turns;
  failed = act_of ended.failing;
  calls = all_calls pace origin.beat origin.replica origin.outside.told ended.turns ended.failing status now.replica now.outside.told ended.calls;
}

-- those of a generated run
abbrev pub run_calls : {begun : Run} {s : Replica} {old : Option Told} {run : Run} {t : Replica} {new : Option Told} → Worked begun s old run t new → CallsMade
run_calls {s = s} {old = old} {t = t} {new = new} worked = record { from = s; to = t; old = old; new = new; exchanges = worked.exchanges; failed = worked.failed; calls = worked.calls }
