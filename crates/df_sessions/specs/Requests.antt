-- A table of sessions as the theory's list: each client's latest request, whatever replies are stored.
use Rattle.std.specs.Prelude.{List, [], ◌∷◌, map}
use Rattle.df_theory.specs.Units
use Rattle.df_theory.specs.Sessions
use Rattle.df_sessions.specs.{declared.session.Session.{Session}, Changes.{Change}, Changes.Change.{Request, Reply}}

-- the theory's session
abbrev pub session_of : Session → Units.Session
session_of s = record { client = s.client; request = s.request; op = s.op }

-- the theory's list
abbrev pub sessions_of : List Session → List Units.Session
sessions_of sessions = map session_of sessions

-- the requests among changes
abbrev pub requests_in : List Change → List Units.Session
requests_in [] = []
requests_in ((Request client request op) ∷ changes) = record { client = client; request = request; op = op } ∷ requests_in changes
requests_in ((Reply place reply) ∷ changes) = requests_in changes

-- the requests of prepares
abbrev pub requests_of : List Units.Message → List Units.Session
requests_of prepares = map (λ p. Sessions.session_of_header p.header) prepares
