-- What a call asks of the disk: its own device calls, and no others.
use Rattle.std.specs.Prelude.{◌≡◌, List, [], Option, Some, None}
use Rattle.df_base.specs.Log.{Event}
use Rattle.df_disk.specs.{Adds.{AddsPart, after_all}, Told.{Told}}
use Rattle.df_model.specs.{Changing.{unless_refused}, Commands.{Advance, Answer, Append, Command, Flush, Reply, WriteBlock}}
use Rattle.df_model.specs.Refusals.{append_refusals, block_refusals, first_refusal, flush_refusals, reply_refusals}
use Rattle.df_opening.specs.Below.{RunningState, State, memory}
use Rattle.df_replica.specs.{Appending.{append_events, next_unit}, Blocks.{block_events, next_block}, Flushing.{flush_events}, Replying.{next_reply, reply_events}, Stepping.{step_events}}

-- those of a step, where a checkpoint runs: the write of the trailer's next block, or at last a sync and the four copies of the superblock
abbrev pub running_events : State → Option RunningState → List Event
running_events s None = []
running_events s (Some r) = step_events s r

-- The device calls of a command from this state of a replica, each once and in this order: an append writes its prepare and then its header sector, each with a sync after it, a flush
-- writes the prepares of its group, syncs, writes their one or two header sectors and syncs, a reply writes its client's slot and syncs, a write of a block is one write. There is none
-- where the command is refused, and none of a stage, a release, a begin and a read.
abbrev pub own_events : Command → State → List Event
own_events (Append client request body) s = unless_refused (first_refusal (append_refusals (memory s) client request body)) [] (append_events s (next_unit s client request body))
own_events Flush s = unless_refused (first_refusal (flush_refusals (memory s))) [] (flush_events s)
own_events (Reply op body) s = unless_refused (first_refusal (reply_refusals (memory s) op body)) [] (reply_events s (next_reply s body))
own_events (WriteBlock kind body) s = unless_refused (first_refusal (block_refusals (memory s) kind body)) [] (block_events s (next_block s kind body))
own_events Advance s = running_events s s.running
own_events command s = []

-- What is told after a call is what was told before it and these alone: all of them where it was answered, and the first of them, or none, where it wasn't.
abbrev pub AddsOwn : Command → State → (old new : Option Told) → Option Answer → Type 0
AddsOwn command s old new None = AddsPart (own_events command s) old new
AddsOwn command s old new (Some answer) = new ≡ after_all (own_events command s) old
