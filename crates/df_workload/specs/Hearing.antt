-- What an answer makes of a generated run.
use Rattle.std.specs.Prelude.{◌+◌, Bool, true, false, [], ◌∷◌, ◌++◌, drop, Ok, Err}
use Rattle.df_model.specs.Commands.{Advance, Answer, Begin, Command, ToAdvance, ToAppend, ToBegin, ToFlush, ToReadBlock, ToReadPrepare, ToReadReply, ToRecent, ToRelease, ToReply, ToScrub, ToStage, ToWriteBlock}
use Rattle.df_model.specs.declared.answers.Progress.TheVariants as progress
use Rattle.df_model.specs.declared.commands.Answer.{Answer as Called}
use Rattle.df_model.specs.declared.commands.Answer.TheVariants as answers
use Rattle.df_workload.specs.{Draw.{body_length}, Rounds.{after_reply, to_begin, to_block, to_next, to_release, to_replies}, declared.outcome.Outcome.{Outcome}}
use Rattle.df_workload.specs.{declared.outcome.Outcome.TheVariants.{Refused, Accepted, Wrote, Finished}, declared.state.Point.{Point}}
use Rattle.df_workload.specs.{declared.state.Point.TheVariants.{Appending, Replying, Stepping, Writing, Releasing, Beginning, Ending}, declared.state.State.{State}}

-- ---- what counts of an answer

abbrev pub outcome_of : Answer → Outcome
outcome_of (ToAppend (Ok receipt)) = Accepted
outcome_of (ToAppend (Err e)) = Refused
outcome_of (ToStage (Ok op)) = Accepted
outcome_of (ToStage (Err e)) = Refused
outcome_of (ToFlush (Ok count)) = Accepted
outcome_of (ToFlush (Err e)) = Refused
outcome_of (ToReply (Ok checksum)) = Accepted
outcome_of (ToReply (Err e)) = Refused
outcome_of (ToWriteBlock (Ok reference)) = Wrote reference.0
outcome_of (ToWriteBlock (Err e)) = Refused
outcome_of (ToRelease (Ok done)) = Accepted
outcome_of (ToRelease (Err e)) = Refused
outcome_of (ToBegin (Ok blocks)) = Accepted
outcome_of (ToBegin (Err e)) = Refused
outcome_of (ToAdvance (Ok (progress.Working left))) = Accepted
outcome_of (ToAdvance (Ok (progress.Done sequence))) = Finished
outcome_of (ToAdvance (Err e)) = Refused
outcome_of (ToReadPrepare read) = Accepted
outcome_of (ToReadReply read) = Accepted
outcome_of (ToReadBlock read) = Accepted
outcome_of (ToScrub scrubbed) = Accepted
outcome_of (ToRecent findings) = Accepted

-- the same of an answer as its call gives it
abbrev pub outcome_in : Called → Outcome
outcome_in (answers.WriteBlock (Ok reference)) = Wrote reference.address
outcome_in (answers.Advance (Ok (progress.Done sequence))) = Finished
outcome_in (answers.Append (Err e)) = Refused
outcome_in (answers.Stage (Err e)) = Refused
outcome_in (answers.Flush (Err e)) = Refused
outcome_in (answers.Reply (Err e)) = Refused
outcome_in (answers.WriteBlock (Err e)) = Refused
outcome_in (answers.Release (Err e)) = Refused
outcome_in (answers.Begin (Err e)) = Refused
outcome_in (answers.Advance (Err e)) = Refused
outcome_in answer = Accepted

-- ---- what is counted, and what the run has then

-- a refused command is counted, and changes nothing
abbrev pub refused : State → State
refused s = record s { counts = record s.counts { refused = s.counts.refused + 1 } }

abbrev pub append_heard : Outcome → State → State
append_heard Refused s = refused s
append_heard outcome s = record s { counts = record s.counts { appended = s.counts.appended + 1; bytes = s.counts.bytes + body_length s.number } }

abbrev pub reply_heard : Outcome → State → State
reply_heard Refused s = refused s
reply_heard outcome s = record s { counts = record s.counts { replied = s.counts.replied + 1 } }

-- Done unsets the flag of a running checkpoint
abbrev pub stepped : Outcome → State → State
stepped Refused s = refused s
stepped Finished s = record s { running = false; counts = record s.counts { checkpoints = s.counts.checkpoints + 1 } }
stepped outcome s = s

-- the address of a block that is written goes last into the list
abbrev pub block_heard : Outcome → State → State
block_heard Refused s = refused s
block_heard (Wrote address) s = record s { held = s.held ++ address ∷ []; counts = record s.counts { wrote = s.counts.wrote + 1 } }
block_heard outcome s = s

-- the first address is taken out
abbrev pub without_first : State → State
without_first s = record s { held = drop 1 s.held }

abbrev pub release_heard : Outcome → State → State
release_heard Refused s = refused (without_first s)
release_heard outcome s = record (without_first s) { counts = record s.counts { released = s.counts.released + 1 } }

-- a begin that is accepted sets the flag
abbrev pub begin_heard : Outcome → State → State
begin_heard Refused s = refused s
begin_heard outcome s = record s { running = true }

-- ---- and where it goes on

abbrev pub told_at : Point → Outcome → State → State
told_at Appending outcome s = to_replies (append_heard outcome s)
told_at (Replying op) outcome s = after_reply op (reply_heard outcome s)
told_at Stepping outcome s = to_block (stepped outcome s)
told_at Writing outcome s = to_release (block_heard outcome s)
told_at Releasing outcome s = to_begin (release_heard outcome s)
told_at Beginning outcome s = to_next (begin_heard outcome s)
told_at Ending outcome s = stepped outcome s

abbrev pub told : Outcome → State → State
told outcome s = told_at s.point outcome s

-- the run after an answer to what it asked for
abbrev pub heard : Answer → State → State
heard answer s = told (outcome_of answer) s

-- ---- the flag

-- whether a checkpoint runs after an answer to this command
abbrev pub runs_after : Command → Outcome → Bool → Bool
runs_after (Begin root) Refused running = running
runs_after (Begin root) outcome running = true
runs_after Advance Finished running = false
runs_after command outcome running = running
