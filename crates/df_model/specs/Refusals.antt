-- Why a call is refused: its tests in their order, each with its answer, over what is in memory. The first that holds is answered.
use Rattle.std.specs.Prelude.{ℕ, ◌+◌, ◌-◌, ◌==◌, Bool, true, false, ◌&&◌, ◌||◌, nat_lt, nat_le, not, if◌then◌else◌, List, [], ◌∷◌, ◌++◌, length, Option, Some, None}
use Rattle.df_base.specs.declared.TheConstants.{GREATEST}
use Rattle.df_theory.specs.{Units.{Session}, Sessions.{sessions_after}}
use Rattle.df_model.specs.{Work.{is_known}, Memory.{Course, Memory, block_room, free_of, message_room}, Blocks.{sum_at}, Making.{group_of}, declared.errors.AppendError.{AppendError}}
use Rattle.df_model.specs.{declared.errors.FlushError.{FlushError}, declared.errors.ReplyError.{ReplyError}, declared.errors.BlockError.{BlockError}, declared.errors.NotLive.{NotLive}}
use Rattle.df_model.specs.{declared.errors.BeginError.{BeginError}, declared.reading.PrepareError.{PrepareError}, declared.reading.LookupError.{LookupError}, declared.reading.ReadError.{ReadError}}
use Rattle.df_model.specs.declared.errors.AppendError.TheVariants as append
use Rattle.df_model.specs.declared.errors.FlushError.TheVariants as flush
use Rattle.df_model.specs.declared.errors.ReplyError.TheVariants as reply
use Rattle.df_model.specs.declared.errors.BlockError.TheVariants as block
use Rattle.df_model.specs.declared.errors.BeginError.TheVariants as begin
use Rattle.df_model.specs.declared.reading.PrepareError.TheVariants as prepare
use Rattle.df_model.specs.declared.reading.LookupError.TheVariants as lookup
use Rattle.df_model.specs.declared.reading.ReadError.TheVariants as read

-- the answer of the first test that holds
abbrev pub first_refusal : {E : Type 0} → List (Bool × E) → Option E
first_refusal [] = None
first_refusal (t ∷ ts) = if t.0 then Some t.1 else first_refusal ts

-- ---- sessions

abbrev pub session_of_client : ℕ → List Session → Option Session
session_of_client client [] = None
session_of_client client (s ∷ ss) = if s.client == client then Some s else session_of_client client ss

abbrev pub is_new : Option Session → Bool
is_new None = true
is_new (Some s) = false

-- this is the client's last request
abbrev pub is_last_request : ℕ → Option Session → Bool
is_last_request request None = false
is_last_request request (Some s) = request == s.request

-- the op of the client's last request
abbrev pub last_op : Option Session → ℕ
last_op None = 0
last_op (Some s) = s.op

abbrev pub next_request : Option Session → ℕ
next_request None = 1
next_request (Some s) = s.request + 1

-- ---- the calls

-- of a request, whether it is appended or staged
abbrev pub request_refusals : Memory → (client request : ℕ) → List ℕ → List (Bool × AppendError)
request_refusals m client request body =
    let session = session_of_client client m.sessions in
    (client == 0, append.ClientZero)
    ∷ (nat_lt (message_room m.layout) (length body), append.BodyTooLong (message_room m.layout))
    ∷ (is_new session && (length m.sessions == m.layout.clients), append.ClientsFull m.layout.clients)
    ∷ (is_last_request request session && nat_le (last_op session) m.replies, append.Repeated (last_op session))
    ∷ (nat_lt m.replies (last_op session), append.ReplyPending (last_op session))
    ∷ (not (request == next_request session), append.RequestOrder (next_request session))
    ∷ (m.head - m.replies == 8, append.PipelineFull (m.head - m.replies))
    ∷ (nat_lt (m.content.op + m.layout.slots) (m.head + 1), append.WalFull (m.head + 1) m.content.op)
    ∷ ((m.head == GREATEST) || nat_lt GREATEST request, append.OpsSpent)
    ∷ []

-- as if what is staged were appended, and no reply were stored yet
abbrev pub counted_staged : Memory → Memory
counted_staged m = record m { head = m.head + length m.staged; sessions = sessions_after m.sessions (group_of m []) }

abbrev pub stage_refusals : Memory → (client request : ℕ) → List ℕ → List (Bool × AppendError)
stage_refusals m client request body = request_refusals (counted_staged m) client request body

abbrev pub is_staged : Memory → Bool
is_staged m = nat_lt 0 (length m.staged)

-- what is staged comes before what is appended
abbrev pub append_refusals : Memory → (client request : ℕ) → List ℕ → List (Bool × AppendError)
append_refusals m client request body = request_refusals m client request body ++ (is_staged m, append.Staged (length m.staged)) ∷ []

abbrev pub flush_refusals : Memory → List (Bool × FlushError)
flush_refusals m = (not (is_staged m), flush.NothingStaged) ∷ []

abbrev pub reply_refusals : Memory → (op : ℕ) → List ℕ → List (Bool × ReplyError)
reply_refusals m op body =
    (m.replies == m.head, reply.NothingPending m.head)
    ∷ (not (op == m.replies + 1), reply.ReplyOrder (m.replies + 1))
    ∷ (nat_lt (message_room m.layout) (length body), reply.BodyTooLong (message_room m.layout))
    ∷ []

abbrev pub block_refusals : Memory → (kind : ℕ) → List ℕ → List (Bool × BlockError)
block_refusals m kind body =
    (kind == 0, block.KindZero)
    ∷ (nat_lt (block_room m.layout) (length body), block.BodyTooLong (block_room m.layout))
    ∷ (length (free_of m) == 0, block.GridFull m.layout.blocks)
    ∷ []

abbrev pub release_refusals : Memory → (address : ℕ) → List (Bool × NotLive)
release_refusals m address = (not (is_known (sum_at address m.blocks.live)), record {}) ∷ []

abbrev pub is_running : Option Course → Bool
is_running None = false
is_running (Some r) = true

-- the steps still to come: one for each block of the trailer, and the last
abbrev pub steps_left : Option Course → ℕ
steps_left None = 0
steps_left (Some r) = length r.left + 1

-- where the trailer needs this many blocks
abbrev pub begin_refusals : Memory → (needed : ℕ) → (root : List ℕ) → List (Bool × BeginError)
begin_refusals m needed root =
    (is_running m.running, begin.Running (steps_left m.running))
    ∷ (nat_lt 1024 (length root), begin.RootTooLong 1024)
    ∷ (nat_lt (length (free_of m)) needed, begin.GridFull needed (length (free_of m)))
    ∷ (m.content.sequence == GREATEST, begin.SequenceSpent)
    ∷ []

abbrev pub prepare_refusals : Memory → (op : ℕ) → List (Bool × PrepareError)
prepare_refusals m op = (not (nat_lt m.content.op op && nat_le op m.head), prepare.NotKept (m.content.op + 1) m.head) ∷ []

abbrev pub lookup_refusals : Memory → (client : ℕ) → List (Bool × LookupError)
lookup_refusals m client =
    let session = session_of_client client m.sessions in
    (is_new session, lookup.NoClient)
    ∷ (nat_lt m.replies (last_op session), lookup.ReplyPending (last_op session))
    ∷ []

abbrev pub read_refusals : Memory → (address : ℕ) → List (Bool × ReadError)
read_refusals m address = (not (is_known (sum_at address m.blocks.live)), read.NotLive) ∷ []
