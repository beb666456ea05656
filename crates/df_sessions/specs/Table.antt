-- What a session table holds, and what a request and a stored reply make of it.
use Rattle.std.specs.{Prelude.{◌≡◌, ◌≢◌, ℕ, zero, suc, ◌≤◌, Bool, ◌==◌, nat_eq, if◌then◌else◌, List, [], ◌∷◌, length, map, slice_get, Some, None, IsSome}, List.{AllByRecursion, IsDistinct, position}}
use Rattle.df_sessions.specs.declared.session.Session.{Session}

-- the sessions in order of their places, and how many there can be
pub record Table : Type 0 where
  pub max : ℕ
  pub sessions : List Session

-- the clients in order of their places
abbrev pub clients_of : List Session → List ℕ
clients_of sessions = map (λ s. s.client) sessions

-- the ops of the latest requests in order of their places
abbrev pub ops_of : List Session → List ℕ
ops_of sessions = map (λ s. s.op) sessions

-- no more sessions than places, of clients that differ, none of which is 0
pub record IsSessionTable (table : Table) : Type 0 where
  pub some : 1 ≤ table.max
  pub most : table.max ≤ 64
  pub within : length table.sessions ≤ table.max
  pub distinct : IsDistinct nat_eq (clients_of table.sessions)
  pub named : AllByRecursion (λ client. client ≢ 0) (clients_of table.sessions)

-- each session has a client
abbrev pub AreNamed : List Session → Type 0
AreNamed sessions = (k : ℕ) (s : Session) → slice_get sessions k ≡ Some s → s.client ≢ 0

-- no client has two sessions
abbrev pub AreDistinctClients : List Session → Type 0
AreDistinctClients sessions = (j k : ℕ) (s t : Session) → slice_get sessions j ≡ Some s → slice_get sessions k ≡ Some t → s.client ≡ t.client → j ≡ k

abbrev pub has_client : ℕ → Session → Bool
has_client client session = session.client == client

-- some session is the client's
abbrev pub IsKnownClient : ℕ → List Session → Type 0
IsKnownClient client sessions = IsSome (position (has_client client) sessions)

-- the session of a request, whose reply isn't stored yet
abbrev pub requested : ℕ → ℕ → ℕ → Session
requested client request op = record { client = client; request = request; op = op; reply = None }

-- the sessions after a request: a known client's session is replaced at its place, and a new client's goes last
abbrev pub with_request : ℕ → ℕ → ℕ → List Session → List Session
with_request client request op [] = requested client request op ∷ []
with_request client request op (session ∷ sessions) =
    if has_client client session then requested client request op ∷ sessions else session ∷ with_request client request op sessions

-- the sessions after the reply for a place was stored
abbrev pub with_reply_stored : ℕ → List ℕ → List Session → List Session
with_reply_stored place reply [] = []
with_reply_stored zero reply (session ∷ sessions) = record session { reply = Some reply } ∷ sessions
with_reply_stored (suc place) reply (session ∷ sessions) = session ∷ with_reply_stored place reply sessions
