-- The ops that wait for their replies: each has its session.
use Rattle.std.specs.{Prelude.{◌≡◌, ◌==◌, ◌<◌, ◌≤◌, ℕ, Bool, true, false, List, Option, Some, None}, List.{list_any}}
use Rattle.df_theory.specs.{Units.{Block, Content, Parts}, Sessions.{Has}, Shape.{Shape}, Trailer.{InChain, text_of}}
use Rattle.df_model.specs.Supply.{Shown}
use Rattle.df_sessions.specs.declared.session.Session.{Session}
use Rattle.df_checkpoint.specs.Reads.{IsWholeChain}

-- the op is that of a session
abbrev pub has_op : ℕ → List Session → Bool
has_op op sessions = list_any (λ s. s.op == op) sessions

-- the op is above the stored replies, the checkpoint reaches it, and no session has it; each lower one has its session
pub record IsLeast (sessions : List Session) (replies op n : ℕ) : Type 0 where
  pub above : replies < n
  pub reached : n ≤ op
  pub lacks : has_op n sessions ≡ false
  pub least : (m : ℕ) → replies < m → m < n → has_op m sessions ≡ true

-- in the theory's words: a chain is whole, its text is one that references no address of the chain, and this is the least op that waits for its reply and is the op of no session
pub record IsUntracked (sh : Shape) (shown : Shown) (c : Content) (n : ℕ) : Type 0 where
  pub chain : List (ℕ × Block)
  pub whole : IsWholeChain sh shown c chain
  pub parts : Parts
  pub says : sh.parse c.op (text_of chain) ≡ Some parts
  pub spare : (a : ℕ) (b : Block) → InChain a b chain → parts.references a ≡ None
  pub above : c.replies < n
  pub reached : n ≤ c.op
  pub lacks : Has parts.sessions n → ⊥
  pub least : (m : ℕ) → c.replies < m → m < n → Has parts.sessions m

abbrev pub IsPendingReply : List Session → (replies op : ℕ) → Option ℕ → Type 0
IsPendingReply sessions replies op None = (n : ℕ) → replies < n → n ≤ op → has_op n sessions ≡ true
IsPendingReply sessions replies op (Some n) = IsLeast sessions replies op n
