-- What holds of the sessions of a text in which nothing fails, as a reader gives them.
use Rattle.std.specs.Prelude.{◌≡◌, ◌<◌, ◌≤◌, ℕ, List, length, slice_get, Some, None}
use Rattle.df_base.specs.declared.TheConstants.{GREATEST}
use Rattle.df_sessions.specs.declared.session.Session.{Session}

-- a session of a checkpoint of this op: its numbers are in their ranges, and its reply isn't told
pub record IsReadSession (op : ℕ) (s : Session) : Type 0 where
  pub client : 0 < s.client
  pub request : (0 < s.request) × (s.request ≤ GREATEST)
  pub op_is : (0 < s.op) × (s.op ≤ op)
  pub reply : s.reply ≡ None

-- no more sessions than places, of clients and ops that differ
pub record AreReadSessions (places op : ℕ) (ss : List Session) : Type 0 where
  pub few : length ss ≤ places
  pub each : (k : ℕ) (s : Session) → slice_get ss k ≡ Some s → IsReadSession op s
  pub clients : (j k : ℕ) (s t : Session) → slice_get ss j ≡ Some s → slice_get ss k ≡ Some t → s.client ≡ t.client → j ≡ k
  pub ops : (j k : ℕ) (s t : Session) → slice_get ss j ≡ Some s → slice_get ss k ≡ Some t → s.op ≡ t.op → j ≡ k
