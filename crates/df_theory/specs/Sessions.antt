-- The table of sessions: each client's last request, in the order in which clients came.
use Rattle.std.specs.{Prelude.{◌≡◌, ◌⊎◌, ◌<◌, ◌≤◌, ◌+◌, ◌==◌, ℕ, if◌then◌else◌, List, [], ◌∷◌, Some}, List.{slice_get}}
use Rattle.df_theory.specs.Units.{Header, Message, Session}

abbrev pub session_of_header : Header → Session
session_of_header h = record { client = h.client; request = h.request; op = h.op }

-- the table after a prepare: a known client's session is replaced, a new client's goes last
abbrev pub noted : Header → List Session → List Session
noted h [] = session_of_header h ∷ []
noted h (s ∷ ss) = if s.client == h.client then session_of_header h ∷ ss else s ∷ noted h ss

-- the table after these prepares
abbrev pub sessions_after : List Session → List Message → List Session
sessions_after ss [] = ss
sessions_after ss (p ∷ ps) = sessions_after (noted p.header ss) ps

-- the client may make this request now: it had the reply to its last one, or it is new and a place is left
abbrev pub MayAsk : ℕ → Header → List Session → Type 0
MayAsk room h [] = (h.request ≡ 1) × (0 < room)
MayAsk room h (s ∷ ss) = ((s.client ≡ h.client) × (h.request ≡ s.request + 1) × (s.op ≤ h.mark)) ⊎ ((s.client ≡ h.client → ⊥) × (k : ℕ) × (room ≡ k + 1) × MayAsk k h ss)

-- a session has this op
abbrev pub Has : List Session → ℕ → Type 0
Has ss o = (k : ℕ) × (s : Session) × (slice_get ss k ≡ Some s) × (s.op ≡ o)

-- the sessions' ops are at most high and differ, and each op above low is one of them: it waits for its reply
pub record Tracks (low high : ℕ) (ss : List Session) : Type 0 where
  pub below : (k : ℕ) (s : Session) → slice_get ss k ≡ Some s → s.op ≤ high
  pub apart : (j k : ℕ) (s t : Session) → slice_get ss j ≡ Some s → slice_get ss k ≡ Some t → s.op ≡ t.op → j ≡ k
  pub pending : (o : ℕ) → low < o → o ≤ high → Has ss o

-- the reply is to the session's last request
pub record Answers (s : Session) (r : Message) : Type 0 where
  pub client : r.header.client ≡ s.client
  pub request : r.header.request ≡ s.request
  pub op : r.header.op ≡ s.op
