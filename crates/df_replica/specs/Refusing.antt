-- What the refusals of calls are made of: the numbers of what is in memory.
use Rattle.std.specs.Prelude.{◌≡◌, ℕ, List, length, slice_get, Option, Some, None}
use Rattle.df_sessions.specs.declared.session.Session.{Session}
use Rattle.df_model.specs.Memory.{Memory, message_room}
use Rattle.df_replica.specs.declared.refusing.Counters.{Counters}

-- the session at a place, if there is a place
abbrev pub session_at : List Session → Option ℕ → Option Session
session_at sessions None = None
session_at sessions (Some place) = slice_get sessions place

-- the counters of what is in memory
pub record AreCounters (m : Memory) (c : Counters) : Type 0 where
  pub op : m.content.op ≡ c.op
  pub head : m.head ≡ c.head
  pub replies : m.replies ≡ c.replies
  pub sessions : length m.sessions ≡ c.sessions
  pub places : m.layout.clients ≡ c.places
  pub slots : m.layout.slots ≡ c.slots
  pub message_room : message_room m.layout ≡ c.message_room
