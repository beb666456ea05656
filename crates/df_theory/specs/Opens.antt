-- The answer of an open: the first step that refuses, and what it names, or the state that is found.
use Rattle.std.specs.{Prelude.{◌≡◌, ◌<◌, ◌≤◌, ◌+◌, ◌-◌, ◌%◌, ℕ, List, [], ◌∷◌, ◌++◌, length, Some}, List.{slice_get}}
use Rattle.df_base.specs.declared.TheConstants.{GREATEST, HEADER}
use Rattle.df_theory.specs.Units.{Block, BlockPlace, BlockUnit, Content, CopyPlace, CopyUnit, Message, Place, PreparePlace, PrepareUnit, ReplyPlace, ReplyUnit, Session, Units}
use Rattle.df_theory.specs.{Sessions.{Answers, sessions_after}, Tails.{AreGroups, Chain, In}, Shape.{Shape, slots, clients}, Copies.{IsChosen, IsSplit}}
use Rattle.df_theory.specs.{Trailer.{InChain, IsCount, IsReference, piece_size}, View.{Checkpoint, IsSoundCheckpoint, PassesTests, View, boot_of}, Holds.{IsNamed}}
use Rattle.df_theory.specs.Found.{IsFound, IsReach, IsReplies, IsTail, NotBehind, NotLost, slot_behind}

-- no two copies agree, as in a blank file; a test of the superblock, of its layout or of its trailer fails; a place is damaged or shows what cannot be; no boot is left
pub data Refusal : Type 0 where
  NoQuorum : Refusal
  BadField : Refusal
  Damaged : (place : Place) → Refusal
  BootSpent : Refusal

pub data OpenAnswer : Type 0 where
  Refused : (refusal : Refusal) → OpenAnswer
  Found : (view : View) → OpenAnswer

-- ---- the trailer

-- reading a chain of blocks from this address on: these were shown as they were named, and now this address with this checksum is wanted
abbrev pub Arrives : Units → List (ℕ × Block) → ℕ → ℕ → ℕ → ℕ → Type 0
Arrives image [] address checksum a k = (a ≡ address) × (k ≡ checksum)
Arrives image (b ∷ bs) address checksum a k = (0 < address) × (b.0 ≡ address) × (b.1.checksum ≡ checksum) × (image (BlockPlace address) ≡ Some (BlockUnit b.1)) × (b.1.kind ≡ 0) × Arrives image bs b.1.before b.1.before_checksum a k

-- a block of the chain, with this index: it has the sequence and the size that it is to have, and names a block of the grid where one is to come before it
pub record IsLink (sh : Shape) (c : Content) (index : ℕ) (b : Block) : Type 0 where
  pub sequence : b.sequence ≡ c.sequence
  pub place : b.index ≡ index
  pub size : length b.body ≡ piece_size (sh.layout.block_size - HEADER) c.trailer_size index
  pub before : 0 < index → (0 < b.before) × (b.before ≤ sh.layout.blocks)

-- of n blocks that are wanted these are the last ones
abbrev pub AreLinks : Shape → Content → ℕ → List (ℕ × Block) → Type 0
AreLinks sh c n [] = Unit {0}
AreLinks sh c n (b ∷ bs) = (i : ℕ) × (n ≡ i + 1) × IsLink sh c i b.1 × AreLinks sh c i bs

-- the chain is read down to this address, and more blocks are wanted
pub record ReadsTo (sh : Shape) (image : Units) (c : Content) (a k : ℕ) : Type 0 where
  pub count : ℕ
  pub read : List (ℕ × Block)
  pub counts : IsCount (sh.layout.block_size - HEADER) c.trailer_size count
  pub arrives : Arrives image read c.trailer c.trailer_checksum a k
  pub links : AreLinks sh c count read
  pub more : length read < count

-- the block that is wanted is shown; a block that is no trailer block is damage there, whatever its checksum
abbrev pub IsShown : Units → ℕ → ℕ → Type 0
IsShown image a k = (b : Block) × (image (BlockPlace a) ≡ Some (BlockUnit b)) × (b.checksum ≡ k) × (b.kind ≡ 0)

-- a checkpoint that can be read: its superblock is chosen, it passes its tests, and its trailer is shown
pub record IsReadable (sh : Shape) (image : Units) (b : Checkpoint) : Type 0 where
  pub chosen : IsChosen image b.content
  pub sound : IsSoundCheckpoint sh b
  pub shown : (a : ℕ) (x : Block) → InChain a x b.chain → image (BlockPlace a) ≡ Some (BlockUnit x)

-- ---- the replies

-- the slot shows the reply to the session's last request
abbrev pub IsAnswered : Units → Content → ℕ → Session → Type 0
IsAnswered image c k s = (r : Message) × (image (ReplyPlace k) ≡ Some (ReplyUnit r)) × Answers s r × IsNamed c k r

-- the first session whose reply is stored and not shown
pub record LacksReply (image : Units) (c : Content) (ss : List Session) (n k : ℕ) : Type 0 where
  pub session : Session
  pub at : slice_get ss k ≡ Some session
  pub stored : session.op ≤ n
  pub lacks : IsAnswered image c k session → ⊥
  pub first : (j : ℕ) (s : Session) → j < k → slice_get ss j ≡ Some s → s.op ≤ n → IsAnswered image c j s

-- ---- the steps

-- the chosen superblock passes its tests, so that its trailer may be read
pub record IsUsableSuperblock (sh : Shape) (image : Units) (c : Content) : Type 0 where
  pub chosen : IsChosen image c
  pub tests : PassesTests sh c
  pub reference : IsReference sh.layout c

-- the lowest copy of the choice
pub record IsLowest (image : Units) (c : Content) (n : ℕ) : Type 0 where
  pub shows : image (CopyPlace n) ≡ Some (CopyUnit c)
  pub lowest : (k : ℕ) → k < n → image (CopyPlace k) ≡ Some (CopyUnit c) → ⊥

-- the checkpoint is read, no unit is of a later one, and this is the tail after it
pub record ReachesTail (sh : Shape) (image : Units) (b : Checkpoint) (tail : List Message) : Type 0 where
  pub readable : IsReadable sh image b
  pub not_behind : NotBehind sh image b.content
  pub tail_is : IsTail sh image b tail

-- ---- the prepares that the superblock names

-- the checksum that is named before these prepares: the parent of the first, or this one where there is none
abbrev pub named_by : ℕ → List Message → ℕ
named_by checksum [] = checksum
named_by checksum (p ∷ ps) = p.header.parent

-- prepares that are shown from this op on, each with the checksum that the next one names, and the last with this one
abbrev pub AreKnown : ℕ → Units → ℕ → ℕ → List Message → Type 0
AreKnown n image op checksum [] = Unit {0}
AreKnown n image op checksum (p ∷ ps) = (image (PreparePlace (op % n)) ≡ Some (PrepareUnit p)) × (p.header.checksum ≡ named_by checksum ps) × AreKnown n image (op + 1) checksum ps

-- the greatest op that is named and not shown as it is named
pub record LacksKnown (sh : Shape) (image : Units) (c : Content) (a : ℕ) : Type 0 where
  pub read : List Message
  pub known : AreKnown (slots sh) image (a + 1) c.pin_checksum read
  pub count : a + length read ≡ c.pin
  pub above : c.op < a
  pub lacks : (p : Message) → image (PreparePlace (a % slots sh)) ≡ Some (PrepareUnit p) → p.header.checksum ≡ named_by c.pin_checksum read → ⊥

-- named prepares, each of which fits what precedes it; the last one of all ends its group
pub record AreFitting (sh : Shape) (b : Checkpoint) (ps : List Message) : Type 0 where
  pub chain : Chain (clients sh) (b.content.op + 1) b.content.op_checksum 0 b.parts.sessions ps
  pub grouped : AreGroups 0 b.content.op (b.content.op + 1) ps
  pub ends : (p : Message) → In p ps → p.header.op ≡ b.content.pin → p.header.group_last ≤ b.content.pin

-- all that is named is shown, and the one after this front is the first that doesn't fit
pub record IsUnfit (sh : Shape) (image : Units) (b : Checkpoint) (front : List Message) : Type 0 where
  pub next : Message
  pub rest : List Message
  pub known : AreKnown (slots sh) image (b.content.op + 1) b.content.pin_checksum (front ++ next ∷ rest)
  pub count : b.content.op + length (front ++ next ∷ rest) ≡ b.content.pin
  pub fits : AreFitting sh b front
  pub fails : AreFitting sh b (front ++ next ∷ []) → ⊥

-- nothing above the tail left a trace, and this is the number of replies
pub record ReachesReplies (sh : Shape) (image : Units) (b : Checkpoint) (tail : List Message) (n : ℕ) : Type 0 where
  pub reaches : ReachesTail sh image b tail
  pub not_lost : NotLost image b.content (b.content.op + length tail)
  pub replies : IsReplies image b.content tail n

-- the answer of an open: the first step that refuses, in this order, or the state
pub data Opens (sh : Shape) (image : Units) : OpenAnswer → Type 0 where
  -- no two copies agree
  Split : IsSplit image → Opens sh image (Refused NoQuorum)
  -- the chosen superblock fails a test
  Unusable : (c : Content) → IsChosen image c → (PassesTests sh c → IsReference sh.layout c → ⊥) → Opens sh image (Refused BadField)
  -- a block of the trailer is wanted and not shown
  LacksBlock : (c : Content) (a k : ℕ) → IsUsableSuperblock sh image c → ReadsTo sh image c a k → (IsShown image a k → ⊥) → Opens sh image (Refused (Damaged (BlockPlace a)))
  -- all blocks that are wanted are shown, and the trailer fails a test
  BadTrailer : (c : Content) → IsUsableSuperblock sh image c → ((a k : ℕ) → ReadsTo sh image c a k → IsShown image a k) → ((b : Checkpoint) → b.content ≡ c → IsReadable sh image b → ⊥) → Opens sh image (Refused BadField)
  -- a unit is of a later checkpoint
  Behind : (b : Checkpoint) (n : ℕ) → IsReadable sh image b → (NotBehind sh image b.content → ⊥) → IsLowest image b.content n → Opens sh image (Refused (Damaged (CopyPlace n)))
  -- a prepare that the superblock names isn't shown, or doesn't fit
  Unknown : (b : Checkpoint) (a : ℕ) → IsReadable sh image b → NotBehind sh image b.content → LacksKnown sh image b.content a → Opens sh image (Refused (Damaged (PreparePlace (a % slots sh))))
  Unfit : (b : Checkpoint) (front : List Message) → IsReadable sh image b → NotBehind sh image b.content → IsUnfit sh image b front → Opens sh image (Refused (Damaged (PreparePlace ((b.content.op + length front + 1) % slots sh))))
  -- an op above the tail left a trace
  Lost : (b : Checkpoint) (tail more : List Message) → ReachesTail sh image b tail → IsReach sh image b tail more → (NotLost image b.content (b.content.op + length tail) → ⊥) → Opens sh image (Refused (Damaged (PreparePlace (slot_behind sh b tail more))))
  -- a reply is stored and not shown
  Unanswered : (b : Checkpoint) (tail : List Message) (n k : ℕ) → ReachesReplies sh image b tail n → LacksReply image b.content (sessions_after b.parts.sessions tail) n k → Opens sh image (Refused (Damaged (ReplyPlace k)))
  -- a state is found, and its boot can't be raised
  Spent : (v : View) → IsFound sh image v → boot_of v ≡ GREATEST → Opens sh image (Refused BootSpent)
  -- no step refuses
  Opened : (v : View) → IsFound sh image v → boot_of v < GREATEST → Opens sh image (Found v)
