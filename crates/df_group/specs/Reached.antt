-- Where a walk along prepares begins after a checkpoint, and where prepares end.
use Rattle.std.specs.Prelude.{◌≡◌, ◌+◌, ℕ, List, length}
use Rattle.df_sessions.specs.{declared.session.Session.{Session}, Requests.{sessions_of}}
use Rattle.df_theory.specs.{Sessions.{sessions_after}, Tails.{last_checksum, last_mark}, Units.{Message}, View.{Checkpoint}}
use Rattle.df_units.specs.Meaning.{number_of}
use Rattle.df_group.specs.declared.groups.Tail.{Tail}

-- these prepares end so, with these sessions
pub record EndsAt (b : Checkpoint) (ps : List Message) (end : Tail) (sessions : List Session) : Type 0 where
  pub op : end.op ≡ b.content.op + length ps
  pub checksum : number_of end.checksum ≡ last_checksum b.content.op_checksum ps
  pub mark : end.mark ≡ last_mark 0 ps
  pub sessions_are : sessions_of sessions ≡ sessions_after b.parts.sessions ps

-- a checkpoint of this op, whose prepare has this checksum, with these sessions
pub record BeginsBehind (b : Checkpoint) (op : ℕ) (checksum : List ℕ) (sessions : List Session) : Type 0 where
  pub op_is : b.content.op ≡ op
  pub checksum_is : b.content.op_checksum ≡ number_of checksum
  pub sessions_are : b.parts.sessions ≡ sessions_of sessions
