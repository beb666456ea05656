-- What a generated run does to a replica: its commands are the generator's, each is one call, and the run hears of each answer.
use Rattle.std.specs.Prelude.{◌≡◌, ◌<◌, ◌+◌, ℕ, Bool, true, List, [], length, map, Option, Some, None, Result, Ok, Err}
use Rattle.df_base.specs.Streams.{Appends, AppendsPart}
use Rattle.df_disk.specs.Told.{Told}
use Rattle.df_inspect.specs.{Reports.{workload_text}, declared.counts.Workload.{Workload}}
use Rattle.df_model.specs.Commands.{Answer as Answered, Command}
use Rattle.df_session.specs.{Session.{Act, Exchange, acts_in, answers_in, command_in}, Stepping.{OfRunning}, Below.{State as Replica}, Endings.{EndsBy}, Links.{AreCalls, Calls, EndsCalls, Makes}}
use Rattle.df_session.specs.declared.hearing.Fault.{Fault}
use Rattle.df_workload.specs.{Asking.{asks}, Following.{Follows}, Hearing.{outcome_of, runs_after}, Sound.{flag}, declared.outcome.Outcome.{Outcome}}
use Rattle.df_workload.specs.{declared.outcome.Outcome.TheVariants.{Refused, Accepted, Wrote, Finished}, declared.state.State.{State as Run}}
use Rattle.df_top.specs.{Outside.{PrintsLine}, Refusing.{PrintsFault}, Session.{IsDamagedLine}, declared.status.Status.{Status}}
use Rattle.df_top.specs.declared.status.Status.TheVariants as ends

-- ---- one command

-- the call was made and this much was heard of its answer; or it has none, and this ends the run
abbrev pub HearsOf : Command → (s t : Replica) → (old new : Option Told) → Result Outcome Fault → Type 0
HearsOf command s t old new (Ok outcome) = (x : Answered) × Makes command s t old new (Some x) × (outcome ≡ outcome_of x)
HearsOf command s t old new (Err fault) = Makes command s t old new None × EndsBy fault command new

-- a checkpoint runs
abbrev pub IsRunning : Replica → Type 0
IsRunning s = OfRunning s.running (λ r. Unit {0})

-- calls may go on, and a checkpoint runs where the flag of the run is set
pub record CanGoOn (run : Run) (s : Replica) : Type 0 where
  pub live : s.live ≡ true
  pub runs : run.running ≡ true → IsRunning s

-- where the flag of the run is set after an answer, a checkpoint runs, if that was so before
abbrev pub StillRuns : Command → (s t : Replica) → Result Outcome Fault → Type 0
StillRuns command s t (Ok outcome) = (flag : Bool) → (flag ≡ true → IsRunning s) → runs_after command outcome flag ≡ true → IsRunning t
StillRuns command s t (Err e) = Unit {0}

-- a step is refused only where no checkpoint runs; one that isn't the last leaves one block less to write, and the last one none
abbrev pub StepsOn : (s t : Replica) → Result Outcome Fault → Type 0
StepsOn s t (Ok Refused) = IsRunning s → ⊥
StepsOn s t (Ok Accepted) = length t.blocks.left < length s.blocks.left
StepsOn s t (Ok (Wrote address)) = ⊥
StepsOn s t (Ok Finished) = t.blocks.left ≡ []
StepsOn s t (Err e) = Unit {0}

-- ---- some commands

-- from one state of the run to another its commands were made, one after the other, and each was answered
pub record Works (begun : Run) (s : Replica) (old : Option Told) (run : Run) (t : Replica) (new : Option Told) : Type 0 where
  pub exchanges : List Exchange
  pub calls : AreCalls s old exchanges t new
  pub follows : Follows begun (map command_in (acts_in exchanges)) (answers_in exchanges) run

-- they were, and the next one has no answer, which ends the run
pub record Fails (begun : Run) (s : Replica) (old : Option Told) (run : Run) (t : Replica) (new : Option Told) (fault : Fault) : Type 0 where
  pub replica : Replica
  pub told : Option Told
  pub works : Works begun s old run replica told
  pub act : Act
  pub call : Calls act replica t told new None
  pub asked : asks run ≡ Some act.command
  pub ends : EndsBy fault act.command new

-- they were; or the next one has no answer, and this ends the run
abbrev pub Comes : {T : Type 0} → (begun : Run) → (s : Replica) → (old : Option Told) → (run : Run) → (t : Replica) → (new : Option Told) → Result T Fault → Type 0
Comes begun s old run t new (Ok x) = Works begun s old run t new
Comes begun s old run t new (Err fault) = Fails begun s old run t new fault

-- ---- a whole run

abbrev pub asked_by : Option Act → Option Command
asked_by None = None
asked_by (Some a) = Some a.command

-- its commands were made, each was answered, and then the next one was not, or none is asked for
pub record Worked (begun : Run) (s : Replica) (old : Option Told) (run : Run) (t : Replica) (new : Option Told) : Type 0 where
  pub exchanges : List Exchange
  pub failed : Option Act
  pub calls : EndsCalls s t old new exchanges failed
  pub follows : Follows begun (map command_in (acts_in exchanges)) (answers_in exchanges) run
  pub asked : asks run ≡ asked_by failed

-- what was counted, with these numbers of the file at the end: the head, how many replies, and the sequence
abbrev pub workload_with : Run → (last stored number : ℕ) → Workload
workload_with run last stored number = record {
  appended = run.counts.appended;
  replied = run.counts.replied;
  wrote = run.counts.wrote;
  released = run.counts.released;
  checkpoints = run.counts.checkpoints;
  refused = run.counts.refused;
  bytes = run.counts.bytes;
  head = last;
  replies = stored;
  sequence = number;
}

abbrev pub workload_of : Run → Replica → Workload
workload_of run t = workload_with run t.head t.replies t.fields.sequence

-- What is written at the end: the report, nothing where the disk failed, the line of a step that is damaged; or a front of it where the sink failed.
abbrev pub WritesReport : Run → Replica → (told : Option Told) → (failed : Option Act) → (old new : Option (List ℕ)) → Status → Type 0
WritesReport run t told None old new ends.Done = Appends old new (workload_text (workload_of run t))
WritesReport run t told None old new ends.WriteFault = AppendsPart old new (workload_text (workload_of run t))
WritesReport run t told (Some a) old new ends.DiskFault = new ≡ old
WritesReport run t told (Some a) old new ends.Refused = (line : List ℕ) × IsDamagedLine a.command told line × Appends old new line
WritesReport run t told (Some a) old new ends.WriteFault = (line : List ℕ) × IsDamagedLine a.command told line × AppendsPart old new line
WritesReport run t told failed old new status = ⊥

-- how many steps a run has at its end: one for each block of the running trailer, and the last
abbrev pub steps_left : Run → Replica → ℕ
steps_left run t = length t.blocks.left + flag run.running

-- what is printed of a run, by how it ended
abbrev pub PrintsRun : {T : Type 0} → Run → Replica → Result T Fault → (old new : Option (List ℕ)) → Status → Type 0
PrintsRun run t (Ok x) old new status = PrintsLine (workload_text (workload_of run t)) ends.Done old new status
PrintsRun run t (Err e) old new status = PrintsFault e old new status
