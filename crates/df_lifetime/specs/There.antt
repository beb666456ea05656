-- What was acknowledged is in a view: prepares, alone or in groups, replies and checkpoints.
use Rattle.std.specs.{Prelude.{◌≡◌, ◌<◌, ◌≤◌, ◌+◌, ℕ, List, [], ◌∷◌, ◌++◌, drop, length, Ok, Some}, List.{slice_get}}
use Rattle.df_theory.specs.{Tails.{In}, Units.{Message, Session}, View.{View, head, sequence, sessions}}
use Rattle.df_model.specs.{Commands.{Advance, Answer, Append, Command, Flush, Given, Reply, Stage, ToAdvance, ToAppend, ToFlush, ToReply, ToStage, supplied_sums}, Making.{first_of}}
use Rattle.df_model.specs.{Work.{Request, Work}, declared.answers.Progress.TheVariants.{Done}}

-- the prepare that was appended with this op and checksum is in the view: a checkpoint has reached its op, or it stands in the tail
pub record HasPrepare (v : View) (op sum client request : ℕ) (body : List ℕ) : Type 0 where
  pub reached : op ≤ head v
  pub there : v.checkpoint.content.op < op
      → (p : Message) × In p v.tail × (p.header.op ≡ op) × (p.header.checksum ≡ sum) × (p.header.client ≡ client) × (p.header.request ≡ request) × (p.body ≡ body)

-- the reply to this op is in the view: it is counted, and it is stored as long as its client has made no later request
pub record HasReply (v : View) (op sum : ℕ) (body : List ℕ) : Type 0 where
  pub counted : op ≤ v.replies
  pub stored : (k : ℕ) (s : Session) → slice_get (sessions v) k ≡ Some s → s.op ≡ op → (r : Message) × (v.stored k ≡ Some r) × (r.header.checksum ≡ sum) × (r.body ≡ body)

-- ---- requests that are staged

-- a request that was staged, with the op that its prepare is to get, as it was answered
pub record Promised : Type 0 where
  pub op : ℕ
  pub client : ℕ
  pub request : ℕ
  pub body : List ℕ

abbrev pub promised_from : (op : ℕ) → List Request → List Promised
promised_from op [] = []
promised_from op (r ∷ rs) = record { op = op; client = r.client; request = r.request; body = r.body } ∷ promised_from (op + 1) rs

-- all that are staged in a state: none at an open
abbrev pub promised_in : Work → List Promised
promised_in w = promised_from (head w.view + 1) w.staged

-- those that are staged after an answer, where these were before it
abbrev pub promised_by : List Promised → Command → Answer → List Promised
promised_by rs (Stage client request body) (ToStage (Ok op)) = rs ++ record { op = op; client = client; request = request; body = body } ∷ []
promised_by rs Flush (ToFlush (Ok count)) = []
promised_by rs command answer = rs

-- the prepares of these requests are in the view, with these checksums
abbrev pub HavePrepares : View → List Promised → (sums : List ℕ) → Type 0
HavePrepares v [] sums = Unit {0}
HavePrepares v (r ∷ rs) sums = HasPrepare v r.op (first_of sums) r.client r.request r.body × HavePrepares v rs (drop 1 sums)

-- ---- what was answered

-- What a command was answered is in the view, where that was a prepare, all prepares of a group, a reply or a finished checkpoint. A flush acknowledges each request that was staged before it.
abbrev pub IsAnswerThere : View → List Promised → Given → Command → Answer → Type 0
IsAnswerThere v rs given (Append client request body) (ToAppend (Ok answer)) = HasPrepare v answer.0 answer.1 client request body
IsAnswerThere v rs given Flush (ToFlush (Ok count)) = (length rs ≡ count) × HavePrepares v rs (supplied_sums given)
IsAnswerThere v rs given (Reply op body) (ToReply (Ok sum)) = HasReply v op sum body
IsAnswerThere v rs given Advance (ToAdvance (Ok (Done n))) = n ≤ sequence v
IsAnswerThere v rs given command answer = Unit {0}
