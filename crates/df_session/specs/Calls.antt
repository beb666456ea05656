-- The calls that commands ask for: which have an answer of their own, what each does, and what it answers in the machine's words.
use Rattle.std.specs.Prelude.{◌≡◌, ℕ, Bool, false, List, Option, Some, None, Result, Ok, Err}
use Rattle.df_disk.specs.Told.{Told}
use Rattle.df_format.specs.declared.reference.Reference.{Reference}
use Rattle.df_model.specs.Commands.{Advance, Answer as Answered, Append, Begin, Command, Flush, ReadBlock, ReadPrepare, ReadReply, Recent, Release, Reply, Scrub, Stage, ToAdvance, ToReadBlock, ToReadPrepare, ToReadReply, ToScrub, WriteBlock}
use Rattle.df_model.specs.{declared.answers.Progress.{Progress}, declared.answers.Receipt.{Receipt}, declared.answers.Scrubbed.{Scrubbed}, declared.commands.Answer.{Answer}}
use Rattle.df_model.specs.{declared.errors.AppendError.{AppendError}, declared.errors.BeginError.{BeginError}, declared.errors.BlockError.{BlockError}, declared.errors.FlushError.{FlushError}}
use Rattle.df_model.specs.{declared.errors.NotLive.{NotLive}, declared.errors.ReplyError.{ReplyError}, declared.errors.StepError.{StepError}}
use Rattle.df_model.specs.Faults.{is_append_fault, is_block_fault, is_flush_fault, is_lookup_fault, is_prepare_fault, is_read_fault, is_reply_fault, is_step_fault}
use Rattle.df_model.specs.declared.commands.Answer.TheVariants as answers
use Rattle.df_replica.specs.{Answering.{answer_of, as_append, as_flush, as_reply, as_write_block, begin_answer, is_step_unanswered, release_answer, stage_answer}, Appending.{IsAppendCall}}
use Rattle.df_replica.specs.{Beginning.{IsBegin}, Below.{State as Replica}, Blocks.{IsRelease, IsWriteBlock}, Flushing.{IsFlush, IsStage}, Replying.{IsReplyCall}, Scrubbing.{IsScrub}}
use Rattle.df_replica.specs.Stepping.{IsStepCall}

-- an answer tells all of it: a read lends its unit, and the ring its findings
abbrev pub HasAnswer : Command → Type 0
HasAnswer (ReadPrepare op) = ⊥
HasAnswer (ReadReply client) = ⊥
HasAnswer (ReadBlock address) = ⊥
HasAnswer Recent = ⊥
HasAnswer command = Unit {0}

-- the disk is blamed
abbrev pub blames : {T E : Type 0} → (is_fault : E → Bool) → Result T E → Bool
blames is_fault (Ok x) = false
blames is_fault (Err e) = is_fault e

-- the answer says that the disk failed
abbrev pub is_fault : Answer → Bool
is_fault (answers.Append r) = blames is_append_fault r
is_fault (answers.Flush r) = blames is_flush_fault r
is_fault (answers.Reply r) = blames is_reply_fault r
is_fault (answers.WriteBlock r) = blames is_block_fault r
is_fault (answers.Advance r) = blames is_step_fault r
is_fault (answers.ReadPrepare r) = blames is_prepare_fault r
is_fault (answers.ReadReply r) = blames is_lookup_fault r
is_fault (answers.ReadBlock r) = blames is_read_fault r
is_fault answer = false

-- no unit that was read is lent with it, nor what the ring holds
abbrev pub LendsNothing : Answer → Type 0
LendsNothing (answers.ReadPrepare (Ok done)) = ⊥
LendsNothing (answers.ReadReply (Ok done)) = ⊥
LendsNothing (answers.ReadBlock (Ok done)) = ⊥
LendsNothing answers.Recent = ⊥
LendsNothing answer = Unit {0}

-- the answer is that of the call, which is exact
abbrev pub IsExact : Command → (s t : Replica) → (old new : Option Told) → Answer → Type 0
IsExact (Append client request body) s t old new answer = (r : Result Receipt AppendError) × (answer ≡ answers.Append r) × IsAppendCall client request body s t old new r
IsExact (Stage client request body) s t old new answer = (r : Result ℕ AppendError) × (answer ≡ answers.Stage r) × IsStage client request body s t r × (new ≡ old)
IsExact Flush s t old new answer = (r : Result ℕ FlushError) × (answer ≡ answers.Flush r) × IsFlush s t old new r
IsExact (Reply op body) s t old new answer = (r : Result (List ℕ) ReplyError) × (answer ≡ answers.Reply r) × IsReplyCall op body s t old new r
IsExact (WriteBlock kind body) s t old new answer = (r : Result Reference BlockError) × (answer ≡ answers.WriteBlock r) × IsWriteBlock kind body s t old new r
IsExact (Release address) s t old new answer = (r : Result (Unit {0}) NotLive) × (answer ≡ answers.Release r) × IsRelease address s t r × (new ≡ old)
IsExact (Begin root) s t old new answer = (r : Result ℕ BeginError) × (answer ≡ answers.Begin r) × IsBegin root s t r × (new ≡ old)
IsExact Advance s t old new answer = (r : Result Progress StepError) × (answer ≡ answers.Advance r) × IsStepCall s t old new r
IsExact Scrub s t old new answer = (r : Scrubbed) × (answer ≡ answers.Scrub r) × IsScrub s t old (Ok r) × (new ≡ old)
IsExact command s t old new answer = ⊥

-- the machine's answer: none where the disk failed, or where a step found the superblock damaged that it wrote; a unit that was read is no part of an answer, nor is what the ring holds
abbrev pub machine_answer : Answer → Option Answered
machine_answer (answers.Append r) = answer_of is_append_fault as_append r
machine_answer (answers.Stage r) = stage_answer r
machine_answer (answers.Flush r) = answer_of is_flush_fault as_flush r
machine_answer (answers.Reply r) = answer_of is_reply_fault as_reply r
machine_answer (answers.WriteBlock r) = answer_of is_block_fault as_write_block r
machine_answer (answers.Release r) = release_answer r
machine_answer (answers.Begin r) = begin_answer r
machine_answer (answers.Advance r) = answer_of is_step_unanswered ToAdvance r
machine_answer (answers.ReadPrepare (Err e)) = answer_of is_prepare_fault ToReadPrepare (Err e)
machine_answer (answers.ReadReply (Err e)) = answer_of is_lookup_fault ToReadReply (Err e)
machine_answer (answers.ReadBlock (Err e)) = answer_of is_read_fault ToReadBlock (Err e)
machine_answer (answers.Scrub scrubbed) = Some (ToScrub scrubbed)
machine_answer answer = None
