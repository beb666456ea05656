-- What each call of a session comes to, by what is heard of its answer.
use Rattle.std.{proofs.{Common.{◌≡◌, ◌⊎◌, inl, inr, ℕ, Bool, true, false, not, List, [], ◌∷◌, Option, Some, None, Result, Ok, Err, refl, sym, ◌∙◌, ap, subst}, lemmas.Option.{none-some}}, specs.Prelude.{IfErr, IfOk, OnOk}}
use Rattle.{df_disk.specs.Told.{Told}, df_format.specs.declared.reference.Reference.{Reference}, df_base.specs.Causes.{Blamed, IsBlamed}}
use Rattle.df_model.specs.{Blocks.{sum_at}, Commands.{Advance, Answer as Answered, Append, Begin, Command, Release, Reply, ToAdvance, ToAppend, ToBegin, ToRelease, WriteBlock}, Faults.{is_append_fault, is_block_fault, is_reply_fault, is_step_fault}, Refusals.{append_refusals, block_refusals, first_refusal, reply_refusals}, Work.{is_known}, declared.answers.Progress.{Progress}, declared.answers.Receipt.{Receipt}, declared.errors.AppendError.{AppendError}, declared.errors.BeginError.{BeginError}, declared.errors.BlockError.{BlockError}, declared.errors.NotLive.{NotLive}, declared.errors.ReplyError.{ReplyError}, declared.errors.StepError.{StepError}}
use Rattle.df_model.specs.declared.answers.Progress.TheVariants as progress
use Rattle.df_model.specs.declared.commands.Answer.TheVariants as answers
use Rattle.df_model.specs.declared.errors.AppendError.TheVariants as append
use Rattle.df_model.specs.declared.errors.BeginError.TheVariants as begin
use Rattle.df_model.specs.declared.errors.BlockError.TheVariants as block
use Rattle.df_model.specs.declared.errors.ReplyError.TheVariants as reply
use Rattle.df_model.specs.declared.errors.StepError.TheVariants as step
use Rattle.df_session.{specs.{Answering.{Serves, as_append, as_reply, as_write_block}, Appending.{IsAppendCall, next_unit, with_prepare_appended}, Beginning.{IsBegin, begin_refusal, with_checkpoint_begun}, Below.{State as Replica, RunningState, memory}, Blocks.{IsRelease, IsWriteBlock, next_block, released, written}, Calls.{machine_answer}, Links.{Makes}, Own.{AddsOwn}, Replying.{IsReplyCall, next_reply, with_stored_reply}, Stepping.{IsStepCall, OfRunning}}, proofs.Laws.{append_called, heard_made, on_running, reply_called, step_called, write_called}}
use Rattle.df_session.specs.declared.hearing.Fault.TheVariants as faults
use Rattle.df_table.{specs.{Calls.{CheckpointStepped, Comes, IsCheckpointing, MayAppendCommand, MayBegin, stepped, taken}, declared.ending.Ending.{Ending}, declared.ending.Ending.TheVariants.{Disk, OpsSpent, SequenceSpent}, Policy.{the_client}, Statuses.{is_disk}, Turns.{EndsFor, IsAccepted, IsOfCall, MakeAll}}, proofs.Joined.{one_failed, one_made, one_spent}}

-- ---- small

pub on_ok : {T E P : Type 0} (r : Result T E) → P → OnOk r P
on_ok (Ok x) p = p
on_ok (Err e) p = tt

-- ---- a release, which touches no disk

module _ (s t : Replica) (address : ℕ) where
  pub release_takes : (r : Result (Unit {0}) NotLive) → IsRelease address s t r → is_known (sum_at address (memory s).blocks.live) ≡ true
      → ((told : Option Told) → Makes (Release address) s t told told (machine_answer (answers.Release r)))
      → ((told : Option Told) → MakeAll (Release address ∷ []) s t told told) × (t ≡ released s address)
  release_takes (Ok done) is known makes = (λ told. one_made (Release address) s t told told (ToRelease (Ok tt)) (makes told) tt, is.1)
  release_takes (Err e) is known makes = let no : NotLive = record {} in
      absurd (none-some e (sym (ap (λ (b : Bool). first_refusal {E = NotLive} ((not b, no) ∷ [])) known) ∙ is.0))

-- ---- the others, each by its own name

module _ (s t : Replica) (old new : Option Told) where
  -- what a call comes to: it was made and accepted, and this is the state after it; it is refused; or it has no answer
  pub record Takes {T : Type 0} (before now : ℕ) (May : Type 0) (command : Command) (u : Replica) (r : Result T Ending) : Type 0 where
    pub comes : May → Comes (command ∷ []) s t old new r
    pub state : OnOk r (t ≡ u)
    pub live : OnOk r (t.live ≡ true)
    pub ends : IfErr r (IsOfCall new)
    pub disk : IsBlamed is_disk before now r

  module _ (before now : ℕ) {T : Type 0} (May : Type 0) (command : Command) (u : Replica) where
    took : (x : Answered)
        → Makes command s t old new (Some x) → IsAccepted x → t ≡ u → now ≡ before → (y : T) → Takes before now May command u (Ok y)
    took x makes accepted state same y = record { comes = λ may. one_made command s t old new x makes accepted; state = state; live = makes.calls.call.live; ends = tt; disk = same }

    no_answer : Makes command s t old new None → Blamed true before now → Takes {T = T} before now May command u (Err Disk)
    no_answer makes blamed =
        record { comes = λ may. one_failed command s t old new faults.Disk (makes, tt); state = tt; live = tt; ends = tt; disk = blamed }

    -- of a session that is ready it isn't refused so
    never_refused : (May → ⊥)
        → now ≡ before → (e : Ending) → IsOfCall new e → Blamed (is_disk e) before before → Takes {T = T} before now May command u (Err e)
    never_refused never same e of blamed = record { comes = λ may. absurd (never may); state = tt; live = tt; ends = of; disk = subst (Blamed (is_disk e) before) (sym same) blamed }

    -- and this is the one refusal that may come
    spent : (x : Answered) → Makes command s t old new (Some x) → (e : Ending) → EndsFor e new (x ∷ []) None
        → now ≡ before → IsOfCall new e → Blamed (is_disk e) before before → Takes {T = T} before now May command u (Err e)
    spent x makes e why same of blamed =
        record { comes = λ may. one_spent command s t old new x e makes why; state = tt; live = tt; ends = of; disk = subst (Blamed (is_disk e) before) (sym same) blamed }

  module _ (before now : ℕ) where
    module _ (op : ℕ) where
      abbrev pub Replied : Result (Unit {0}) Ending → Type 0
      Replied y = Takes
          before now (first_refusal (reply_refusals (memory s) op []) ≡ None) (Reply op []) (with_stored_reply s (next_reply s []).header) y

      reply_takes : (r : Result (List ℕ) ReplyError)
          → IsReplyCall op [] s t old new r → Makes (Reply op []) s t old new (machine_answer (answers.Reply r))
          → IsBlamed is_reply_fault before now r → Replied (taken {U = Unit {0}} (λ (x : List ℕ). tt) is_reply_fault OpsSpent r)
      reply_takes (Ok check) is makes blamed = took before now _ (Reply op []) _ (as_reply (Ok check)) makes tt is.2 blamed tt
      reply_takes (Err reply.DiskFault) is makes blamed = no_answer before now _ (Reply op []) _ makes blamed
      reply_takes (Err (reply.NothingPending a)) is makes blamed =
          never_refused before now _ (Reply op []) _ (λ may. none-some (reply.NothingPending a) (sym may ∙ is.0)) blamed OpsSpent tt refl
      reply_takes (Err (reply.ReplyOrder a)) is makes blamed =
          never_refused before now _ (Reply op []) _ (λ may. none-some (reply.ReplyOrder a) (sym may ∙ is.0)) blamed OpsSpent tt refl
      reply_takes (Err (reply.BodyTooLong a)) is makes blamed =
          never_refused before now _ (Reply op []) _ (λ may. none-some (reply.BodyTooLong a) (sym may ∙ is.0)) blamed OpsSpent tt refl

      -- by the clauses of the call
      pub reply_comes : (r : Result (List ℕ) ReplyError) (y : Result (Unit {0}) Ending)
          → y ≡ taken {U = Unit {0}} (λ (x : List ℕ). tt) is_reply_fault OpsSpent r
          → IsReplyCall op [] s t old new r → Serves (Reply op []) s t old new (machine_answer (answers.Reply r))
          → AddsOwn (Reply op []) s old new (machine_answer (answers.Reply r)) → IsBlamed is_reply_fault before now r → Replied y
      reply_comes r y same is serves own blamed =
          subst Replied (sym same) (reply_takes r is (reply_called s t old new before now op [] r is serves own blamed).makes blamed)

      -- it fails with the disk alone
      pub reply_fails : (r : Result (List ℕ) ReplyError) → IsReplyCall op [] s t old new r → first_refusal (reply_refusals (memory s) op [])
          ≡ None → IfErr (taken {U = Unit {0}} (λ (x : List ℕ). tt) is_reply_fault OpsSpent r) (λ e. e ≡ Disk)
      reply_fails (Ok check) is may = tt
      reply_fails (Err reply.DiskFault) is may = refl
      reply_fails (Err (reply.NothingPending a)) is may = absurd (none-some (reply.NothingPending a) (sym may ∙ is.0))
      reply_fails (Err (reply.ReplyOrder a)) is may = absurd (none-some (reply.ReplyOrder a) (sym may ∙ is.0))
      reply_fails (Err (reply.BodyTooLong a)) is may = absurd (none-some (reply.BodyTooLong a) (sym may ∙ is.0))

    module _ (body : List ℕ) where
      abbrev pub BlockWritten : Result (Unit {0}) Ending → Type 0
      BlockWritten y = Takes before
          now (first_refusal (block_refusals (memory s) 1 body) ≡ None) (WriteBlock 1 body) (written s (next_block s 1 body).header) y

      write_takes : (r : Result Reference BlockError)
          → IsWriteBlock 1 body s t old new r → Makes (WriteBlock 1 body) s t old new (machine_answer (answers.WriteBlock r))
          → IsBlamed is_block_fault before now r → BlockWritten (taken {U = Unit {0}} (λ (x : Reference). tt) is_block_fault SequenceSpent r)
      write_takes (Ok reference) is makes blamed =
          took before now _ (WriteBlock 1 body) _ (as_write_block (Ok reference)) makes tt is.2 blamed tt
      write_takes (Err block.DiskFault) is makes blamed = no_answer before now _ (WriteBlock 1 body) _ makes blamed
      write_takes (Err block.KindZero) is makes blamed =
          never_refused before now _ (WriteBlock 1 body) _ (λ may. none-some block.KindZero (sym may ∙ is.0)) blamed SequenceSpent tt refl
      write_takes (Err (block.BodyTooLong a)) is makes blamed = never_refused before now _ (WriteBlock 1 body) _ (λ may.
          none-some (block.BodyTooLong a) (sym may ∙ is.0)) blamed SequenceSpent tt refl
      write_takes (Err (block.GridFull a)) is makes blamed = never_refused before now _ (WriteBlock 1 body) _ (λ may.
          none-some (block.GridFull a) (sym may ∙ is.0)) blamed SequenceSpent tt refl

      pub write_comes : (r : Result Reference BlockError) (y : Result (Unit {0}) Ending)
          → y ≡ taken {U = Unit {0}} (λ (x : Reference). tt) is_block_fault SequenceSpent r
          → IsWriteBlock 1 body s t old new r → Serves (WriteBlock 1 body) s t old new (machine_answer (answers.WriteBlock r))
          → AddsOwn (WriteBlock 1 body) s old new (machine_answer (answers.WriteBlock r))
          → IsBlamed is_block_fault before now r → BlockWritten y
      write_comes r y same is serves own blamed =
          subst BlockWritten (sym same) (write_takes r is (write_called s t old new before now 1 body r is serves own blamed).makes blamed)

    -- nothing but want of what is spent refuses it
    other_refusal : {E : Type 0} (o : Option E) (e spent_so : E) → (e ≡ spent_so → ⊥) → o ≡ Some e → (o ≡ None) ⊎ (o ≡ Some spent_so) → ⊥
    other_refusal o e spent_so other is (inl none) = none-some e (sym none ∙ is)
    other_refusal o e spent_so other is (inr so) = other (let same : Some e ≡ Some spent_so = sym is ∙ so in cc)

    module _ (request : ℕ) (body : List ℕ) where
      abbrev pub Appended : Result ℕ Ending → Type 0
      Appended y = Takes before now (MayAppendCommand s request body)
          (Append the_client request body) (with_prepare_appended s (next_unit s the_client request body)) y

      append_refused : (e : AppendError) → (e ≡ append.OpsSpent → ⊥)
          → first_refusal (append_refusals (memory s) the_client request body) ≡ Some e → now ≡ before → Appended (Err OpsSpent)
      append_refused e other is same = never_refused before now _ (Append the_client request body) _ (other_refusal
          (first_refusal (append_refusals (memory s) the_client request body)) e append.OpsSpent other is) same OpsSpent tt refl

      append_takes : (r : Result Receipt AppendError) → IsAppendCall the_client request body s t old new r
          → Makes (Append the_client request body) s t old new (machine_answer (answers.Append r))
          → IsBlamed is_append_fault before now r → Appended (taken (λ (x : Receipt). x.op) is_append_fault OpsSpent r)
      append_takes (Ok receipt) is makes blamed =
          took before now _ (Append the_client request body) _ (as_append (Ok receipt)) makes tt is.2 blamed receipt.op
      append_takes (Err append.DiskFault) is makes blamed = no_answer before now _ (Append the_client request body) _ makes blamed
      append_takes (Err append.OpsSpent) is makes blamed = spent
          before now _ (Append the_client request body) _ (ToAppend (Err append.OpsSpent)) makes OpsSpent (refl, ([], refl)) blamed tt refl
      append_takes (Err append.ClientZero) is makes blamed = append_refused append.ClientZero (λ no. cc) is.0 blamed
      append_takes (Err (append.BodyTooLong a)) is makes blamed = append_refused (append.BodyTooLong a) (λ no. cc) is.0 blamed
      append_takes (Err (append.ClientsFull a)) is makes blamed = append_refused (append.ClientsFull a) (λ no. cc) is.0 blamed
      append_takes (Err (append.Repeated a)) is makes blamed = append_refused (append.Repeated a) (λ no. cc) is.0 blamed
      append_takes (Err (append.ReplyPending a)) is makes blamed = append_refused (append.ReplyPending a) (λ no. cc) is.0 blamed
      append_takes (Err (append.RequestOrder a)) is makes blamed = append_refused (append.RequestOrder a) (λ no. cc) is.0 blamed
      append_takes (Err (append.PipelineFull a)) is makes blamed = append_refused (append.PipelineFull a) (λ no. cc) is.0 blamed
      append_takes (Err (append.Staged a)) is makes blamed = append_refused (append.Staged a) (λ no. cc) is.0 blamed
      append_takes (Err (append.WalFull a b)) is makes blamed = append_refused (append.WalFull a b) (λ no. cc) is.0 blamed

      pub append_comes : (r : Result Receipt AppendError) (y : Result ℕ Ending) → y ≡ taken (λ (x : Receipt). x.op) is_append_fault OpsSpent r
          → IsAppendCall the_client request body s t old new r
          → Serves (Append the_client request body) s t old new (machine_answer (answers.Append r))
          → AddsOwn (Append the_client request body) s old new (machine_answer (answers.Append r))
          → IsBlamed is_append_fault before now r → Appended y
      append_comes r y same is serves own blamed = subst Appended
          (sym same) (append_takes r is (append_called s t old new before now the_client request body r is serves own blamed).makes blamed)

    begin_refused : (e : BeginError) → (e ≡ begin.SequenceSpent → ⊥) → begin_refusal s [] ≡ Some e
        → now ≡ before → Takes {T = Unit {0}} before now (MayBegin s) (Begin []) (with_checkpoint_begun s []) (Err SequenceSpent)
    begin_refused e other is same = never_refused
        before now _ (Begin []) _ (other_refusal (begin_refusal s []) e begin.SequenceSpent other is) same SequenceSpent tt refl

    pub begin_takes : (r : Result ℕ BeginError)
        → IsBegin [] s t r → Makes (Begin []) s t old new (machine_answer (answers.Begin r)) → now ≡ before → Takes before now (MayBegin s)
        (Begin []) (with_checkpoint_begun s []) (taken {U = Unit {0}} (λ (n : ℕ). tt) (λ (e : BeginError). false) SequenceSpent r)
    begin_takes (Ok blocks) is makes same = took before now _ (Begin []) _ (ToBegin (Ok blocks)) makes tt is.2 same tt
    begin_takes (Err begin.SequenceSpent) is makes same =
        spent before now _ (Begin []) _ (ToBegin (Err begin.SequenceSpent)) makes SequenceSpent (refl, ([], refl)) same tt refl
    begin_takes (Err (begin.Running a)) is makes same = begin_refused (begin.Running a) (λ no. cc) is.0 same
    begin_takes (Err (begin.RootTooLong a)) is makes same = begin_refused (begin.RootTooLong a) (λ no. cc) is.0 same
    begin_takes (Err (begin.GridFull a b)) is makes same = begin_refused (begin.GridFull a b) (λ no. cc) is.0 same

    -- a step
    pub record Stepped (y : Result Bool Ending) : Type 0 where
      pub comes : Comes (Advance ∷ []) s t old new y
      pub state : IfOk y (λ done. CheckpointStepped done s t)
      pub live : OnOk y (t.live ≡ true)
      pub ends : IfErr y (IsOfCall new)
      pub disk : IsBlamed is_disk before now y

    pub step_takes : IsCheckpointing s → (r : Result Progress StepError) → IsStepCall s t old new r → Serves Advance s t old new (machine_answer (answers.Advance r)) → AddsOwn Advance s old new (machine_answer (answers.Advance r)) → IsBlamed is_step_fault before now r → Stepped (stepped r)
    step_takes runs (Ok (progress.Working left)) is serves own blamed =
        let makes = (step_called s t old new before now (Ok (progress.Working left)) is serves own blamed).makes in
        record { comes = one_made Advance s t old new (ToAdvance (Ok (progress.Working left))) makes tt; state = on_running s.running (λ r i. (i.0, i.2)) is; live = makes.calls.call.live; ends = tt; disk = blamed }
    step_takes runs (Ok (progress.Done sequence)) is serves own blamed =
        let makes = (step_called s t old new before now (Ok (progress.Done sequence)) is serves own blamed).makes in
        record { comes = one_made Advance s t old new (ToAdvance (Ok (progress.Done sequence))) makes tt; state = on_running s.running (λ r i. (i.0, i.2)) is; live = makes.calls.call.live; ends = tt; disk = blamed }
    step_takes runs (Err step.NotRunning) is serves own blamed = absurd (rw is.0 at runs)
    step_takes runs (Err (step.Damaged place class)) is serves own blamed =
        let made = (heard_made Advance s t old new before now (answers.Advance (Err (step.Damaged place class)))
        (step_called s t old new before now (Err (step.Damaged place class)) is serves own blamed)).makes in
        record { comes = one_failed Advance s t old new (faults.Damaged place class) made; state = tt; live = tt; ends = made.1.untold; disk = blamed }
    step_takes runs (Err step.DiskFault) is serves own blamed =
        let makes = (step_called s t old new before now (Err step.DiskFault) is serves own blamed).makes in
        record { comes = one_failed Advance s t old new faults.Disk (makes, tt); state = tt; live = tt; ends = tt; disk = blamed }
