-- A state that makes sense: what each call may rely on, and keeps.
use Rattle.std.specs.{Prelude.{◌≡◌, ◌<◌, ◌≤◌, ◌+◌, ◌-◌, ◌*◌, ℕ, true, List, [], ◌∷◌, length, take, Option, Some, None}, List.{slice_get}}
use Rattle.df_base.specs.declared.TheConstants.{GREATEST, VERSION}
use Rattle.df_theory.specs.{Units.{Block, BlockPlace, BlockUnit, Content, Message, Units, Parts}, Sessions.{sessions_after}, Tails.{EndsAt, In, last_checksum}}
use Rattle.df_theory.specs.{Trailer.{InChain, IsCount, Links, text_of}, Shape.{Shape, clients, slots}, View.{Checkpoint, View, head, sequence, sessions}, Holds.{Sound}, Next.{MayAskInTurn}}
use Rattle.df_theory.specs.{UnitLog.{UnitLog, now}, WholeLaws.{IsStanding}}
use Rattle.df_model.specs.{Work.{Running, Work, is_held}, Codec.{AreLawful, InGrid, IsChecksum, IsCodec, IsLawful}, Memory.{block_room, last_address, last_sum, memory_of}}
use Rattle.df_model.specs.Making.{group_of, named_places}

-- addresses that rise, from this one on
abbrev pub RiseFrom : ℕ → List ℕ → Type 0
RiseFrom a [] = Unit {0}
RiseFrom a (x ∷ xs) = (a ≤ x) × RiseFrom (x + 1) xs

-- a fact of each address
abbrev pub AtEachOf : (ℕ → Type 0) → List ℕ → Type 0
AtEachOf P [] = Unit {0}
AtEachOf P (x ∷ xs) = P x × AtEachOf P xs

-- the prepares that wait are those from the op after the last reply on, and their checksums are the tail's
pub record AreWaiting (v : View) (sums : List ℕ) : Type 0 where
  pub count : v.replies + length sums ≡ head v
  pub each : (i : ℕ) (p : Message) → In p v.tail → p.header.op ≡ v.replies + 1 + i → slice_get sums i ≡ Some p.header.checksum

-- these prepares may be appended as one group: slots and ops are left for them, no more than 8 would wait, and each client may ask in turn
pub record AreStaged (sh : Shape) (v : View) (ps : List Message) : Type 0 where
  pub room : length v.tail + length ps ≤ slots sh
  pub pipeline : head v + length ps ≤ v.replies + 8
  pub unspent : head v + length ps ≤ GREATEST
  pub asks : MayAskInTurn (clients sh) (sessions v) ps
  pub sessions : AreLawful (clients sh) (sessions_after (sessions v) ps)

-- the superblock that the running checkpoint leads to, as far as its trailer's blocks name it
abbrev pub draft : Shape → (Parts → List ℕ) → View → Running → Content
draft sh spell v r = record v.checkpoint.content { sequence = sequence v + 1; trailer_size = length (spell r.parts) }

-- an address of the running trailer: it isn't referenced
pub record IsSpare (sh : Shape) (r : Running) (a : ℕ) : Type 0 where
  pub inside : InGrid sh.layout a
  pub unreferenced : r.parts.references a ≡ None

-- a running checkpoint: it captured the state after a part of the tail, and the front of its trailer is written
pub record IsCapture (sh : Shape) (spell : Parts → List ℕ) (v : View) (r : Running) : Type 0 where
  pub op_from : v.checkpoint.content.op ≤ r.op
  pub op_to : r.op ≤ head v
  pub ends : EndsAt r.op v.tail
  pub op_checksum : r.op_checksum ≡ last_checksum v.checkpoint.content.op_checksum (take (r.op - v.checkpoint.content.op) v.tail)
  pub sessions : r.parts.sessions ≡ sessions_after v.checkpoint.parts.sessions (take (r.op - v.checkpoint.content.op) v.tail)
  pub unspent : sequence v < GREATEST
  pub lawful : IsLawful sh.layout r.op r.parts
  pub count : IsCount (block_room sh.layout) (length (spell r.parts)) (length r.written + length r.left)
  pub links : Links (block_room sh.layout) (draft sh spell v r) r.written (last_address r.written) (last_sum r.written)
  pub text : text_of r.written ≡ take (block_room sh.layout * length r.written) (spell r.parts)
  pub written : (a : ℕ) (b : Block) → InChain a b r.written → IsSpare sh r a × RiseFrom (a + 1) r.left
  pub left : AtEachOf (IsSpare sh r) r.left × RiseFrom 1 r.left

-- a block may be written there at any time: the address isn't live, and the durable checkpoint neither references it nor has its trailer there
pub record IsClearAddress (live : ℕ → Option ℕ) (c : Checkpoint) (a : ℕ) : Type 0 where
  pub dead : live a ≡ None
  pub unreferenced : c.parts.references a ≡ None
  pub no_trailer : (b : Block) → InChain a b c.chain → ⊥

-- the block with this checksum is to be shown at this address
pub data IsKnown (w : Work) (a c : ℕ) : Type 0 where
  Live : w.live a ≡ Some c → IsKnown w a c
  Captured : (r : Running) → w.running ≡ Some r → r.parts.references a ≡ Some c → IsKnown w a c
  Written : (r : Running) (b : Block) → w.running ≡ Some r → InChain a b r.written → b.checksum ≡ c → IsKnown w a c
  Durable : w.view.checkpoint.parts.references a ≡ Some c → IsKnown w a c
  Chained : (b : Block) → InChain a b w.view.checkpoint.chain → b.checksum ≡ c → IsKnown w a c

-- one block an address
abbrev pub AreOne : Work → Type 0
AreOne w = (a c d : ℕ) → IsKnown w a c → IsKnown w a d → c ≡ d

-- the file is of version 2: at each place that sessions can have its superblock names a checksum, or zero
pub record IsVersionTwo (sh : Shape) (v : View) : Type 0 where
  pub version : sh.version ≡ VERSION
  pub places : clients sh ≤ named_places
  pub names : length v.checkpoint.content.reply_checksums ≡ named_places

-- the state makes sense
pub record IsWork (sh : Shape) (spell : Parts → List ℕ) (w : Work) : Type 0 where
  pub codec : IsCodec sh spell
  pub version : IsVersionTwo sh w.view
  pub view : Sound sh w.view
  pub sessions : AreLawful (clients sh) (sessions w.view)
  pub grid : (a : ℕ) → is_held w a ≡ true → InGrid sh.layout a
  pub waiting : AreWaiting w.view w.waiting
  pub staged : AreStaged sh w.view (group_of (memory_of sh spell w) [])
  pub running : (r : Running) → w.running ≡ Some r → IsCapture sh spell w.view r
  pub one : AreOne w
  pub sums : (a c : ℕ) → w.live a ≡ Some c → IsChecksum c
  pub few : length w.findings ≤ 64
  pub clear : (r : Running) → w.running ≡ Some r → AtEachOf (IsClearAddress w.live w.view.checkpoint) r.left

-- the image shows a block with this checksum
abbrev pub ShowsBlock : Units → ℕ → ℕ → Type 0
ShowsBlock image a c = (b : Block) × (image (BlockPlace a) ≡ Some (BlockUnit b)) × (b.checksum ≡ c)

-- and it is no trailer's
abbrev pub ShowsOwnBlock : Units → ℕ → ℕ → Type 0
ShowsOwnBlock image a c = (b : Block) × (image (BlockPlace a) ≡ Some (BlockUnit b)) × (b.checksum ≡ c) × (0 < b.kind)

-- the running trailer is shown as far as it is written
abbrev pub ShowsWritten : Units → Work → Type 0
ShowsWritten image w = (r : Running) → w.running ≡ Some r → (a : ℕ) (b : Block) → InChain a b r.written → image (BlockPlace a) ≡ Some (BlockUnit b)

-- each block that is live or that a checkpoint references is shown, and no later write reaches the durable checkpoint's
pub record IsBacked (log : UnitLog) (w : Work) : Type 0 where
  pub standing : IsStanding log w.view
  pub live : (a c : ℕ) → w.live a ≡ Some c → ShowsOwnBlock (now log) a c
  pub captured : (r : Running) → w.running ≡ Some r → (a c : ℕ) → r.parts.references a ≡ Some c → ShowsOwnBlock (now log) a c
