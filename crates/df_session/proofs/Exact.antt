-- What follows from a call that is exact: the call that a command asks for, and what its answer is in the machine's words.
use Rattle.std.proofs.Common.{◌≡◌, ℕ, Bool, List, [], ◌∷◌, Option, Some, None, refl, sym, ap, subst, Result, Ok, Err}
use Rattle.{df_base.specs.Causes.{Blamed, IsBlamed}, df_disk.specs.Told.{Told}, df_format.specs.declared.reference.Reference.{Reference}}
use Rattle.{df_layout.specs.declared.{damage.Class.{Class}, places.Place.{Place}}, df_units.specs.Meaning.{number_of}}
use Rattle.df_model.specs.{Commands.{Advance, Append, Begin, Command, Flush, ForAdvance, ForAppend, ForBegin, ForFlush, ForRelease, ForReply, ForStage, ForWriteBlock, ReadBlock, ReadPrepare, ReadReply, Recent, Release, Reply, Stage, WriteBlock}, declared.answers.Progress.{Progress}, declared.answers.Receipt.{Receipt}, declared.commands.Answer.{Answer}, declared.errors.AppendError.{AppendError}, declared.errors.BeginError.{BeginError}, declared.errors.BlockError.{BlockError}, declared.errors.FlushError.{FlushError}, declared.errors.NotLive.{NotLive}, declared.errors.ReplyError.{ReplyError}, declared.errors.StepError.{StepError}, Faults.{is_append_fault, is_block_fault, is_flush_fault, is_reply_fault, is_step_fault}}
use Rattle.df_model.specs.declared.commands.Answer.TheVariants as answers
use Rattle.df_model.specs.declared.errors.StepError.TheVariants as step
use Rattle.df_replica.{specs.{Answering.{Serves, begin_answer, release_answer, stage_answer}, Appending.{IsAppendCall, next_unit}, Beginning.{IsBegin}, Below.{RunningState, State as Replica}, Blocks.{IsRelease, IsWriteBlock, next_block}, Flushing.{IsFlush, IsStage, flush_units, sums_of}, Replying.{IsReplyCall, next_reply}, Stepping.{IsStepCall, OfRunning, TellsImage, made_by}}, proofs.Laws.{adds_none, on_running}}
use Rattle.df_session.{specs.{Calls.{IsExact, LendsNothing, blames, is_fault, machine_answer}, Endings.{IsDamagedStep, KeepsTour}, Links.{Makes}, Own.{AddsOwn}, declared.hearing.Fault.{Fault}}, proofs.Joins.{made}}

-- ---- a running checkpoint

untold : (told : Option Told) → (TellsImage told → ⊥) → told ≡ None
untold None hides = refl
untold (Some t) hides = absurd (hides tt)

never : {A : Type 0} (running : Option RunningState) → OfRunning running (λ r. A) → A
never None is = absurd is
never (Some r) is = is

-- ---- what a call comes to

pub record Called (command : Command) (s t : Replica) (old new : Option Told) (before now : ℕ) (answer : Answer) : Type 0 where
  pub exact : IsExact command s t old new answer
  pub makes : Makes command s t old new (machine_answer answer)
  pub cause : Blamed (is_fault answer) before now
  pub no_check : (r : Result Answer Fault) → KeepsTour command s t r

cause_of : {T E : Type 0} (is_fault : E → Bool) (before now : ℕ) (r : Result T E)
    → IsBlamed is_fault before now r → Blamed (blames is_fault r) before now
cause_of is_fault before now (Ok x) is = is
cause_of is_fault before now (Err e) is = is

module _ (s t : Replica) (old new : Option Told) (before now : ℕ) where
  pub append_called : (client request : ℕ) (body : List ℕ) (r : Result Receipt AppendError) → IsAppendCall client request body s t old new r → Serves (Append client request body) s t old new (machine_answer (answers.Append r)) → AddsOwn (Append client request body) s old new (machine_answer (answers.Append r)) → IsBlamed is_append_fault before now r
      → Called (Append client request body) s t old new before now (answers.Append r)
  append_called client request body r is serves own blamed = record {
    exact = (r, refl, is);
    makes = made (Append client request body) (ForAppend (number_of (next_unit s client request body).header.checksum ∷ []))
        s t old new (machine_answer (answers.Append r)) refl serves own;
    cause = cause_of is_append_fault before now r blamed;
    no_check = λ r. tt;
  }

  pub flush_called : (r : Result ℕ FlushError) → IsFlush s t old new r → Serves Flush s t old new (machine_answer (answers.Flush r)) → AddsOwn Flush s old new (machine_answer (answers.Flush r)) → IsBlamed is_flush_fault before now r → Called Flush s t old new before now (answers.Flush r)
  flush_called r is serves own blamed = record {
    exact = (r, refl, is);
    makes = made Flush (ForFlush (sums_of (flush_units s))) s t old new (machine_answer (answers.Flush r)) refl serves own;
    cause = cause_of is_flush_fault before now r blamed;
    no_check = λ r. tt;
  }

  pub reply_called : (op : ℕ) (body : List ℕ) (r : Result (List ℕ) ReplyError) → IsReplyCall op body s t old new r → Serves (Reply op body) s t old new (machine_answer (answers.Reply r)) → AddsOwn (Reply op body) s old new (machine_answer (answers.Reply r)) → IsBlamed is_reply_fault before now r
      → Called (Reply op body) s t old new before now (answers.Reply r)
  reply_called op body r is serves own blamed = record {
    exact = (r, refl, is);
    makes = made (Reply op body)
        (ForReply (number_of (next_reply s body).header.checksum ∷ [])) s t old new (machine_answer (answers.Reply r)) refl serves own;
    cause = cause_of is_reply_fault before now r blamed;
    no_check = λ r. tt;
  }

  pub write_called : (kind : ℕ) (body : List ℕ) (r : Result Reference BlockError) → IsWriteBlock kind body s t old new r → Serves (WriteBlock kind body) s t old new (machine_answer (answers.WriteBlock r)) → AddsOwn (WriteBlock kind body) s old new (machine_answer (answers.WriteBlock r)) → IsBlamed is_block_fault before now r
      → Called (WriteBlock kind body) s t old new before now (answers.WriteBlock r)
  write_called kind body r is serves own blamed = record {
    exact = (r, refl, is);
    makes = made (WriteBlock kind body) (ForWriteBlock (number_of (next_block s kind body).header.checksum ∷ []))
        s t old new (machine_answer (answers.WriteBlock r)) refl serves own;
    cause = cause_of is_block_fault before now r blamed;
    no_check = λ r. tt;
  }

  pub step_called : (r : Result Progress StepError) → IsStepCall s t old new r → Serves Advance s t old new (machine_answer (answers.Advance r)) → AddsOwn Advance s old new (machine_answer (answers.Advance r)) → IsBlamed is_step_fault before now r → Called Advance s t old new before now (answers.Advance r)
  step_called r is serves own blamed = record {
    exact = (r, refl, is);
    makes = made Advance (ForAdvance (made_by s s.running ∷ [])) s t old new (machine_answer (answers.Advance r)) refl serves own;
    cause = cause_of is_step_fault before now r blamed;
    no_check = λ r. tt;
  }

-- those that touch no disk
module _ (s t : Replica) (told : Option Told) (faults : ℕ) where
  pub release_called : (address : ℕ) (r : Result (Unit {0}) NotLive) → IsRelease address s t r
      → Serves (Release address) s t told told (release_answer r) → Called (Release address) s t told told faults faults (answers.Release r)
  release_called address r is serves = record {
    exact = (r, refl, is, refl);
    makes = made (Release address) ForRelease s
        t told told (machine_answer (answers.Release r)) refl serves (adds_none (Release address) s told told (release_answer r) refl refl);
    cause = refl;
    no_check = λ r. tt;
  }

  pub stage_called : (client request : ℕ) (body : List ℕ) (r : Result ℕ AppendError) → IsStage client request body s t r → Serves (Stage
      client request body) s t told told (stage_answer r) → Called (Stage client request body) s t told told faults faults (answers.Stage r)
  stage_called client request body r is serves = record {
    exact = (r, refl, is, refl);
    makes = made (Stage client request body) ForStage s t told told (machine_answer (answers.Stage r)) refl serves refl;
    cause = refl;
    no_check = λ r. tt;
  }

  pub begin_called : (root : List ℕ) (r : Result ℕ BeginError) → IsBegin root s t r
      → Serves (Begin root) s t told told (begin_answer r) → Called (Begin root) s t told told faults faults (answers.Begin r)
  begin_called root r is serves = record {
    exact = (r, refl, is, refl);
    makes = made (Begin root) ForBegin s t told told (machine_answer (answers.Begin r)) refl serves refl;
    cause = refl;
    no_check = λ r. tt;
  }

-- ---- its answer

module _ (s t : Replica) (old new : Option Told) (answer : Answer) where
  -- it lends nothing
  pub exact_lends : (command : Command) → IsExact command s t old new answer → LendsNothing answer
  exact_lends (ReadPrepare op) is = absurd is
  exact_lends (ReadReply client) is = absurd is
  exact_lends (ReadBlock address) is = absurd is
  exact_lends Recent is = absurd is
  exact_lends command is = subst LendsNothing (sym is.1) tt

  -- a step alone finds the superblock damaged, and only where the disk tells nothing
  pub exact_damaged : (command : Command) → IsExact command s t old new answer
      → (place : Place) (class : Class) → answer ≡ answers.Advance (Err (step.Damaged place class)) → IsDamagedStep command new place class
  exact_damaged Advance is place class damaged = let answered : is.0 ≡ Err (step.Damaged place class) = cc (is.1, damaged) in
      let stopped = rw answered at is.2 in record {
        step = refl;
        copy = never s.running (on_running s.running (λ r i. ap (λ (p : Place). p.zone) i.4.verdict.place_is) stopped);
        untold = untold new (never s.running (on_running s.running (λ r i. i.3) stopped));
      }
  exact_damaged (ReadPrepare op) is place class damaged = absurd is
  exact_damaged (ReadReply client) is place class damaged = absurd is
  exact_damaged (ReadBlock address) is place class damaged = absurd is
  exact_damaged Recent is other class damaged = absurd is
  exact_damaged command is place class damaged = absurd (cc (is.1, damaged))
