-- What the captured checkpoint that a replica keeps is in the words of its state.
use Rattle.std.specs.Prelude.{Option, Some, None}
use Rattle.df_rooms.specs.{State.{RunningState}, declared.running.RunningCheckpoint.{RunningCheckpoint}}

abbrev pub running_state : RunningCheckpoint → RunningState
running_state c = record {
  op = c.op;
  op_checksum = c.op_checksum;
  root = c.capture.root.items;
  sessions = c.capture.sessions.items;
  sequence = c.capture.sequence;
  size = c.size;
  blocks = c.blocks;
  written = c.written;
}

-- of the running checkpoint, if there is one
abbrev pub running_of : Option RunningCheckpoint → Option RunningState
running_of None = None
running_of (Some c) = Some (running_state c)
