-- Answers: they depend on what is in memory alone, and where several tests hold the first of the order is answered.
use Rattle.std.specs.Prelude.{◌≡◌, ◌<◌, ◌≤◌, ◌+◌, ℕ, false, List, [], ◌∷◌, length, Some, None}
use Rattle.df_theory.specs.{Units.{Block, Message, Parts, Session}, Tails.{In}, Trailer.{InChain, text_of}, Shape.{Shape}, View.{Checkpoint}, Next.{MayFinish}}
use Rattle.df_model.specs.{Work.{Work, is_held, kept}, Codec.{AreBytes}, Memory.{Course, Memory, memory_of, message_room}}
use Rattle.df_model.specs.Refusals.{append_refusals, begin_refusals, block_refusals, first_refusal, flush_refusals, lookup_refusals, reply_refusals, request_refusals, session_of_client}
use Rattle.df_model.specs.{Making.{needed_of, parts_of, reply_of}, Commands.{Command, Given, after}, Sense.{IsWork}, declared.errors.AppendError.{AppendError}}
use Rattle.df_model.specs.declared.errors.AppendError.TheVariants as append
use Rattle.df_model.specs.declared.errors.FlushError.TheVariants as flush
use Rattle.df_model.specs.declared.errors.ReplyError.TheVariants as reply
use Rattle.df_model.specs.declared.errors.BlockError.TheVariants as block
use Rattle.df_model.specs.declared.errors.BeginError.TheVariants as begin
use Rattle.df_model.specs.declared.reading.LookupError.TheVariants as lookup

-- two states that are one in memory answer alike: a replica that stands for one of them answers as the machine does
abbrev pub MemoryLaw : Type 0
MemoryLaw =
    (sh : Shape) (spell : Parts → List ℕ) (w u : Work) (given : Given) (command : Command) → memory_of sh spell w ≡ memory_of sh spell u → (after sh spell w given command).1 ≡ (after sh spell u given command).1

-- ---- the order of refusals

-- of an append: the client's number, the body's length, a place for a new client, its last request, and only then the number of this one; and last what is staged
pub record AppendsInOrder (m : Memory) (client request : ℕ) (body : List ℕ) : Type 0 where
  pub zero : client ≡ 0 → first_refusal (append_refusals m client request body) ≡ Some append.ClientZero
  pub long : 0 < client → message_room m.layout < length body → first_refusal (append_refusals m client request body) ≡ Some (append.BodyTooLong (message_room m.layout))
  pub full : 0 < client → length body ≤ message_room m.layout → session_of_client client m.sessions ≡ None → length m.sessions ≡ m.layout.clients → first_refusal (append_refusals m client request body) ≡ Some (append.ClientsFull m.layout.clients)
  pub repeated : (s : Session) → 0 < client → length body ≤ message_room m.layout → session_of_client client m.sessions ≡ Some s → request ≡ s.request → s.op ≤ m.replies → first_refusal (append_refusals m client request body) ≡ Some (append.Repeated s.op)
  pub pending : (s : Session) → 0 < client → length body ≤ message_room m.layout → session_of_client client m.sessions ≡ Some s → m.replies < s.op → first_refusal (append_refusals m client request body) ≡ Some (append.ReplyPending s.op)
  pub number : (s : Session) → 0 < client → length body ≤ message_room m.layout → session_of_client client m.sessions ≡ Some s → s.op ≤ m.replies → s.request + 1 < request → first_refusal (append_refusals m client request body) ≡ Some (append.RequestOrder (s.request + 1))
  pub first : (e : AppendError) → first_refusal (request_refusals m client request body) ≡ Some e → first_refusal (append_refusals m client request body) ≡ Some e
  pub staged : first_refusal (request_refusals m client request body) ≡ None → 0 < length m.staged → first_refusal (append_refusals m client request body) ≡ Some (append.Staged (length m.staged))

-- of the other calls: a flush wants something staged, what there is to reply to comes before the op, a kind of 0 before the length, a running checkpoint before the root
pub record OthersInOrder (m : Memory) (number : ℕ) (bytes : List ℕ) : Type 0 where
  pub unstaged : m.staged ≡ [] → first_refusal (flush_refusals m) ≡ Some flush.NothingStaged
  pub nothing : m.replies ≡ m.head → first_refusal (reply_refusals m number bytes) ≡ Some (reply.NothingPending m.head)
  pub kind : number ≡ 0 → first_refusal (block_refusals m number bytes) ≡ Some block.KindZero
  pub running : (r : Course) → m.running ≡ Some r → first_refusal (begin_refusals m number bytes) ≡ Some (begin.Running (length r.left + 1))
  pub long : m.running ≡ None → 1024 < length bytes → first_refusal (begin_refusals m number bytes) ≡ Some (begin.RootTooLong 1024)
  pub unknown : session_of_client number m.sessions ≡ None → first_refusal (lookup_refusals m number) ≡ Some lookup.NoClient

abbrev pub OrderLaw : Type 0
OrderLaw = (m : Memory) (client request : ℕ) (body : List ℕ) → AppendsInOrder m client request body × OthersInOrder m request body

-- ---- the parent of a reply is its prepare

abbrev pub ReplyParentLaw : Type 0
ReplyParentLaw =
    (sh : Shape) (spell : Parts → List ℕ) (w : Work) (sum : ℕ) (body : List ℕ) (p : Message) → IsWork sh spell w → In p w.view.tail → p.header.op ≡ w.view.replies + 1 → (reply_of (memory_of sh spell w) sum body).header.parent ≡ p.header.checksum

-- ---- a checkpoint that may be finished may be begun

abbrev pub AreDistinctBlocks : List (ℕ × Block) → Type 0
AreDistinctBlocks [] = Unit {0}
AreDistinctBlocks (x ∷ xs) = ((b : Block) → InChain x.0 b xs → ⊥) × AreDistinctBlocks xs

-- a checkpoint of the state as it is, with this root, whose trailer stands at addresses of the grid that aren't held
pub record IsOfNow (sh : Shape) (spell : Parts → List ℕ) (w : Work) (root : List ℕ) (c : Checkpoint) : Type 0 where
  pub may : MayFinish sh (kept w) c
  pub rooted : c.parts.root ≡ root
  pub text : text_of c.chain ≡ spell (parts_of (memory_of sh spell w) root)
  pub bytes : AreBytes (text_of c.chain)
  pub free : (a : ℕ) (b : Block) → InChain a b c.chain → (0 < a) × (is_held w a ≡ false)
  pub apart : AreDistinctBlocks c.chain

abbrev pub BeginExactLaw : Type 0
BeginExactLaw =
    (sh : Shape) (spell : Parts → List ℕ) (w : Work) (root : List ℕ) (c : Checkpoint) → IsWork sh spell w → w.running ≡ None → IsOfNow sh spell w root c
    → first_refusal (begin_refusals (memory_of sh spell w) (needed_of spell (memory_of sh spell w) root) root) ≡ None
