-- The sessions after a list of requests and stored replies, from the first on.
use Rattle.std.specs.Prelude.{ℕ, List, [], ◌∷◌}
use Rattle.df_sessions.specs.{declared.session.Session.{Session}, Table.{with_request, with_reply_stored}}

-- a client's request, or the checksum of the reply that was stored for a place
pub data Change : Type 0 where
  Request : (client request op : ℕ) → Change
  Reply : (place : ℕ) (reply : List ℕ) → Change

abbrev pub changed : Change → List Session → List Session
changed (Request client request op) sessions = with_request client request op sessions
changed (Reply place reply) sessions = with_reply_stored place reply sessions

-- sessions changed in turn
abbrev pub changed_by : List Change → List Session → List Session
changed_by [] sessions = sessions
changed_by (change ∷ changes) sessions = changed_by changes (changed change sessions)

-- the sessions after these changes of an empty table
abbrev pub sessions_after : List Change → List Session
sessions_after changes = changed_by changes []
