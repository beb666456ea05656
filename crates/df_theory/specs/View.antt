-- What an image stands for.
use Rattle.std.specs.Prelude.{◌≡◌, ◌≤◌, ◌<◌, ◌+◌, ℕ, List, length, Option, slice_index}
use Rattle.df_base.specs.declared.TheConstants.{FIRST_VERSION, GREATEST, VERSION}
use Rattle.df_theory.specs.{Units.{Message, Session, Content, Block, Parts}, Sessions.{sessions_after, Tracks}, Shape.{Shape}, Trailer.{IsTrailer}}

-- a checkpoint: the superblock's content, the trailer's blocks from the last to the first, and what they say
pub record Checkpoint : Type 0 where
  pub content : Content
  pub chain : List (ℕ × Block)
  pub parts : Parts

-- the state of a file: the checkpoint, the prepares after it, and the replies, by place in the table of sessions
pub record View : Type 0 where
  pub checkpoint : Checkpoint
  pub tail : List Message
  pub replies : ℕ
  pub stored : ℕ → Option Message

-- the op of the last prepare
abbrev pub head : View → ℕ
head v = v.checkpoint.content.op + length v.tail

abbrev pub sequence : View → ℕ
sequence v = v.checkpoint.content.sequence

abbrev pub sessions : View → List Session
sessions v = sessions_after v.checkpoint.parts.sessions v.tail

abbrev pub boot_of : View → ℕ
boot_of v = v.checkpoint.content.boot

-- what the two versions record
pub record IsOfVersion (c : Content) : Type 0 where
  pub one : c.version ≡ FIRST_VERSION → (c.boot ≡ 0) × (c.pin ≡ c.op) × (c.pin_checksum ≡ c.op_checksum) × (c.answered ≡ 0)
  pub two : c.version ≡ VERSION → (c.pin ≡ c.head) × (c.answered ≡ c.replies + 1)

-- the field tests of a superblock, those on its trailer aside
pub record PassesTests (sh : Shape) (c : Content) : Type 0 where
  pub version : c.version ≡ sh.version
  pub layout : c.layout ≡ sh.layout
  pub cluster : c.cluster ≡ sh.cluster
  pub sequence : (0 < c.sequence) × (c.sequence ≤ GREATEST)
  pub boot : c.boot ≤ GREATEST
  pub op_checksum : c.op ≡ 0 → c.op_checksum ≡ 0
  pub head : (c.op ≤ c.head) × (c.head ≤ c.op + sh.layout.slots) × (c.head ≤ GREATEST)
  pub replies : (c.replies ≤ c.head) × (c.head ≤ c.replies + 8)
  pub pin : (c.op ≤ c.pin) × (c.pin ≤ c.head)
  pub pin_checksum : c.pin ≡ c.op → c.pin_checksum ≡ c.op_checksum
  pub answered : c.answered ≤ c.replies + 1
  pub spare : (k : ℕ) → sh.layout.clients ≤ k → slice_index c.reply_checksums k ≡ 0
  pub of : IsOfVersion c
  pub rest : (i : ℕ) → slice_index c.rest i ≡ 0

-- the superblock and its trailer pass their tests, and each op that waits for its reply has a session
pub record IsSoundCheckpoint (sh : Shape) (c : Checkpoint) : Type 0 where
  pub tests : PassesTests sh c.content
  pub trailer : IsTrailer sh c.content c.chain c.parts
  pub tracks : Tracks c.content.replies c.content.op c.parts.sessions
