-- What each call of a generated run comes to, by what the run hears of its answer.
use Rattle.std.proofs.{Common.{◌≡◌, ◌<◌, ℕ, Bool, true, List, [], ◌∷◌, length, Option, Some, None, refl, sym, ap, subst, Result, Ok, Err, arith}, lemmas.Option.{none-some}}
use Rattle.{df_disk.specs.Told.{Told}, df_format.specs.declared.reference.Reference.{Reference}}
use Rattle.df_model.specs.{Commands.{Advance, Answer as Answered, Append, Begin, Command, Flush, Release, Reply, Scrub, Stage, WriteBlock}, declared.answers.Progress.{Progress}, declared.answers.Progress.TheVariants.{Done, Working}, declared.answers.Receipt.{Receipt}, declared.commands.Answer.{Answer}, declared.errors.AppendError.{AppendError}, declared.errors.BeginError.{BeginError}, declared.errors.BlockError.{BlockError}, declared.errors.FlushError.{FlushError}, declared.errors.NotLive.{NotLive}, declared.errors.ReplyError.{ReplyError}, declared.errors.StepError.{StepError}}
use Rattle.df_model.specs.declared.commands.Answer.TheVariants as answers
use Rattle.df_model.specs.declared.errors.AppendError.TheVariants as append
use Rattle.df_model.specs.declared.errors.BlockError.TheVariants as block
use Rattle.df_model.specs.declared.errors.FlushError.TheVariants as flush
use Rattle.df_model.specs.declared.errors.ReplyError.TheVariants as reply
use Rattle.df_model.specs.declared.errors.StepError.TheVariants as step
use Rattle.df_session.{specs.{Appending.{IsAppendCall}, Beginning.{IsBegin}, Below.{RunningState, State as Replica}, Blocks.{IsRelease, IsWriteBlock}, Flushing.{IsFlush, IsStage}, Replying.{IsReplyCall}, Stepping.{IsStepCall, OfRunning, advanced, finished}, Calls.{IsExact, machine_answer}, Endings.{GivesAnswer}}, proofs.Laws.{on_running}}
use Rattle.df_workload.specs.{Hearing.{outcome_in}, declared.outcome.Outcome.{Outcome}}
use Rattle.df_top.{specs.Works.{HearsOf, IsRunning, StepsOn, StillRuns}, proofs.SameWords.{same_words}}

-- ---- a running checkpoint

-- it runs as before
stays : (s t : Replica) → t.running ≡ s.running → (flag : Bool) → (flag ≡ true → IsRunning s) → flag ≡ true → IsRunning t
stays s t same flag had set = subst (λ (r : Option RunningState). OfRunning r (λ c. Unit {0})) (sym same) (had set)

same_running : (s t : Replica) → t ≡ s → t.running ≡ s.running
same_running s t is = ap (λ (r : Replica). r.running) is

module _ (s t : Replica) (same : t.running ≡ s.running) where
  append_on : (client request : ℕ) (body : List ℕ) (o : Outcome) → StillRuns (Append client request body) s t (Ok o)
  append_on client request body o = stays s t same

  stage_on : (client request : ℕ) (body : List ℕ) (o : Outcome) → StillRuns (Stage client request body) s t (Ok o)
  stage_on client request body o = stays s t same

  flush_on : (o : Outcome) → StillRuns Flush s t (Ok o)
  flush_on o = stays s t same

  reply_on : (op : ℕ) (body : List ℕ) (o : Outcome) → StillRuns (Reply op body) s t (Ok o)
  reply_on op body o = stays s t same

  write_on : (kind : ℕ) (body : List ℕ) (o : Outcome) → StillRuns (WriteBlock kind body) s t (Ok o)
  write_on kind body o = stays s t same

  release_on : (address : ℕ) (o : Outcome) → StillRuns (Release address) s t (Ok o)
  release_on address o = stays s t same

release_running : (s t : Replica) (address : ℕ) (r : Result (Unit {0}) NotLive) → IsRelease address s t r → t.running ≡ s.running
release_running s t address (Ok done) is = ap (λ (r : Replica). r.running) is.1
release_running s t address (Err e) is = same_running s t is.1

stage_running : (s t : Replica) (client request : ℕ) (body : List ℕ) (r : Result ℕ AppendError)
    → IsStage client request body s t r → t.running ≡ s.running
stage_running s t client request body (Ok op) is = ap (λ (r : Replica). r.running) is.2
stage_running s t client request body (Err e) is = same_running s t is.1

-- so it does after each other call
module _ (s t : Replica) (old new : Option Told) where
  append_running : (client request : ℕ) (body : List ℕ) (r : Result Receipt AppendError)
      → IsAppendCall client request body s t old new r → t.running ≡ s.running
  append_running client request body (Ok x) is = ap (λ (r : Replica). r.running) is.2
  append_running client request body (Err append.DiskFault) is = ap (λ (r : Replica). r.running) is.1
  append_running client request body (Err append.ClientZero) is = same_running s t is.1
  append_running client request body (Err (append.BodyTooLong a)) is = same_running s t is.1
  append_running client request body (Err (append.ClientsFull a)) is = same_running s t is.1
  append_running client request body (Err (append.Repeated a)) is = same_running s t is.1
  append_running client request body (Err (append.ReplyPending a)) is = same_running s t is.1
  append_running client request body (Err (append.RequestOrder a)) is = same_running s t is.1
  append_running client request body (Err (append.PipelineFull a)) is = same_running s t is.1
  append_running client request body (Err (append.WalFull a b)) is = same_running s t is.1
  append_running client request body (Err append.OpsSpent) is = same_running s t is.1
  append_running client request body (Err (append.Staged a)) is = same_running s t is.1

  flush_running : (r : Result ℕ FlushError) → IsFlush s t old new r → t.running ≡ s.running
  flush_running (Ok x) is = ap (λ (r : Replica). r.running) is.2
  flush_running (Err flush.DiskFault) is = ap (λ (r : Replica). r.running) is.1
  flush_running (Err flush.NothingStaged) is = same_running s t is.1

  reply_running : (op : ℕ) (body : List ℕ) (r : Result (List ℕ) ReplyError) → IsReplyCall op body s t old new r → t.running ≡ s.running
  reply_running op body (Ok x) is = ap (λ (r : Replica). r.running) is.2
  reply_running op body (Err reply.DiskFault) is = ap (λ (r : Replica). r.running) is.1
  reply_running op body (Err (reply.NothingPending a)) is = same_running s t is.1
  reply_running op body (Err (reply.ReplyOrder a)) is = same_running s t is.1
  reply_running op body (Err (reply.BodyTooLong a)) is = same_running s t is.1

  write_running : (kind : ℕ) (body : List ℕ) (r : Result Reference BlockError) → IsWriteBlock kind body s t old new r → t.running ≡ s.running
  write_running kind body (Ok x) is = ap (λ (r : Replica). r.running) is.2
  write_running kind body (Err block.DiskFault) is = ap (λ (r : Replica). r.running) is.1
  write_running kind body (Err block.KindZero) is = same_running s t is.1
  write_running kind body (Err (block.BodyTooLong a)) is = same_running s t is.1
  write_running kind body (Err (block.GridFull a)) is = same_running s t is.1

begin_on : (s t : Replica) (root : List ℕ) (r : Result ℕ BeginError)
    → IsBegin root s t r → StillRuns (Begin root) s t (Ok (outcome_in (answers.Begin r)))
begin_on s t root (Ok blocks) is = λ flag had set. subst (λ (r : Replica). IsRunning r) (sym is.2) tt
begin_on s t root (Err e) is = stays s t (same_running s t is.1)

-- ---- a step

not_running : (s : Replica) → s.running ≡ None → IsRunning s → ⊥
not_running s is runs = subst (λ (r : Option RunningState). OfRunning r (λ c. Unit {0})) is runs

-- a checkpoint of which a block is written runs on
runs_on : (s t : Replica) (running : Option RunningState) → OfRunning running (λ r. t ≡ advanced s r) → IsRunning t
runs_on s t None is = absurd is
runs_on s t (Some r) is = subst (λ (u : Replica). IsRunning u) (sym is) tt

one_less : (s : Replica) (r : RunningState) (left : List ℕ)
    → (left ≡ [] → ⊥) → length (advanced (record s { blocks = record s.blocks { left = left } }) r).blocks.left < length left
one_less s r [] some = absurd (some refl)
one_less s r (a ∷ more) some = omega arith

fewer : (s t : Replica) (running : Option RunningState)
    → OfRunning running (λ r. (s.blocks.left ≡ [] → ⊥) × (t ≡ advanced s r)) → length t.blocks.left < length s.blocks.left
fewer s t None is = absurd is
fewer s t (Some r) is = subst (λ (u : Replica). length u.blocks.left < length s.blocks.left) (sym is.1) (one_less s r s.blocks.left is.0)

none_left : (s t : Replica) (running : Option RunningState) → OfRunning running (λ r. t ≡ finished s r) → t.blocks.left ≡ []
none_left s t None is = absurd is
none_left s t (Some r) is = ap (λ (u : Replica). u.blocks.left) is

module _ (s t : Replica) (old new : Option Told) where
  step_on : (r : Result Progress StepError) → IsStepCall s t old new r
      → (x : Answered) → machine_answer (answers.Advance r) ≡ Some x → StillRuns Advance s t (Ok (outcome_in (answers.Advance r)))
  step_on (Ok (Working left)) is x said = λ flag had set. runs_on s t s.running (on_running s.running (λ r i. i.2) is)
  step_on (Ok (Done sequence)) is x said = λ flag had set. absurd (cc)
  step_on (Err step.NotRunning) is x said = stays s t (same_running s t is.1)
  step_on (Err (step.Damaged place class)) is x said = absurd (none-some x said)
  step_on (Err step.DiskFault) is x said = absurd (none-some x said)

  step_steps : (r : Result Progress StepError) → IsStepCall s t old new r
      → (x : Answered) → machine_answer (answers.Advance r) ≡ Some x → StepsOn s t (Ok (outcome_in (answers.Advance r)))
  step_steps (Ok (Working left)) is x said = fewer s t s.running (on_running s.running (λ r i. (i.0, i.2)) is)
  step_steps (Ok (Done sequence)) is x said = none_left s t s.running (on_running s.running (λ r i. i.2) is)
  step_steps (Err step.NotRunning) is x said = not_running s is.0
  step_steps (Err (step.Damaged place class)) is x said = absurd (none-some x said)
  step_steps (Err step.DiskFault) is x said = absurd (none-some x said)

-- ---- any call

-- what a call that was answered comes to, by what the run hears of it
pub record Call (command : Command) (s t : Replica) (old new : Option Told) (outcome : Outcome) : Type 0 where
  pub makes : HearsOf command s t old new (Ok outcome)
  pub runs : StillRuns command s t (Ok outcome)
  pub steps : command ≡ Advance → StepsOn s t (Ok outcome)

module _ (s t : Replica) (old new : Option Told) (a : Answer) (x : Answered) (said : machine_answer a ≡ Some x) where
  exact_on : (command : Command) → IsExact command s t old new a → StillRuns command s t (Ok (outcome_in a))
  exact_on (Append client request body) is =
      append_on s t (append_running s t old new client request body is.0 is.2) client request body (outcome_in a)
  exact_on (Stage client request body) is = stage_on s t (stage_running s t client request body is.0 is.2) client request body (outcome_in a)
  exact_on Flush is = flush_on s t (flush_running s t old new is.0 is.2) (outcome_in a)
  exact_on (Reply op body) is = reply_on s t (reply_running s t old new op body is.0 is.2) op body (outcome_in a)
  exact_on (WriteBlock kind body) is = write_on s t (write_running s t old new kind body is.0 is.2) kind body (outcome_in a)
  exact_on (Release address) is = release_on s t (release_running s t address is.0 is.2) address (outcome_in a)
  exact_on (Begin root) is = subst (λ (y : Answer). StillRuns (Begin root) s t (Ok (outcome_in y))) (sym is.1) (begin_on s t root is.0 is.2)
  exact_on Advance is =
      subst (λ (y : Answer). StillRuns Advance s t (Ok (outcome_in y))) (sym is.1) (step_on s t old new is.0 is.2 x (rw is.1 at said))
  exact_on Scrub is = stays s t (ap (λ (r : Replica). r.running) is.2.0)
  exact_on command is = absurd is

  exact_steps : (command : Command) → IsExact command s t old new a → command ≡ Advance → StepsOn s t (Ok (outcome_in a))
  exact_steps command exact is = let step = rw is at exact in
      subst (λ (y : Answer). StepsOn s t (Ok (outcome_in y))) (sym step.1) (step_steps s t old new step.0 step.2 x (rw step.1 at said))

pub heard_call : (command : Command) (s t : Replica) (old new : Option Told) (a : Answer)
    → GivesAnswer command s t old new a → Call command s t old new (outcome_in a)
heard_call command s t old new a gives = record {
  makes = (gives.told, gives.makes, (same_words command gives.told a gives.in_words).1);
  runs = exact_on s t old new a gives.told gives.in_words command gives.exact;
  steps = exact_steps s t old new a gives.told gives.in_words command gives.exact;
}
