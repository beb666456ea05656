-- What an open finds in an image, whatever was done to it: the state, where no step refuses.
use Rattle.std.specs.{Prelude.{◌≡◌, ◌⊎◌, ◌<◌, ◌≤◌, ◌+◌, ◌-◌, ◌%◌, ◌^◌, ℕ, List, [], ◌∷◌, ◌++◌, length, take, Some}, List.{slice_get}}
use Rattle.df_base.specs.{declared.TheConstants.{GREATEST}, Fields.{AreBytes}}
use Rattle.df_theory.specs.Units.{Place, CopyPlace, HeaderPlace, PreparePlace, ReplyPlace, BlockPlace, Header, Message, Session, Content, Block, AnyUnit, CopyUnit, HeaderUnit, PrepareUnit, ReplyUnit, BlockUnit, Units, IsAlone}
use Rattle.df_theory.specs.{Sessions.{Answers}, Tails.{In, Chain, last_mark, last_checksum, AreGroups, AreWholeGroups, BindsHead, EndsAt}, Shape.{Shape, slots, clients}, Copies.{IsChosen}}
use Rattle.df_theory.specs.{Trailer.{InChain}, View.{Checkpoint, View, head, sessions, IsSoundCheckpoint}, Shows.{AgreesCopy}, Holds.{IsNamed}, Cases.{Takes}, Groups.{AreBehind, AreMore}}

-- the fields of a prepare or of a reply are in their ranges
pub record IsInRange (h : Header) : Type 0 where
  pub client : (0 < h.client) × (h.client < 2 ^ 128)
  pub request : (0 < h.request) × (h.request ≤ GREATEST)
  pub op : (0 < h.op) × (h.op ≤ GREATEST)
  pub checksums : (h.checksum < 2 ^ 128) × (h.parent < 2 ^ 128)

-- a unit of the kind of its place, in its own slot, as validity at a place demands
abbrev pub IsOfPlace : Shape → Place → AnyUnit → Type 0
IsOfPlace sh (CopyPlace n) x = (c : Content) × (x ≡ CopyUnit c) × (c.checksum < 2 ^ 128)
IsOfPlace sh (HeaderPlace s) x = (h : Header) × (x ≡ HeaderUnit h) × (h.checksum < 2 ^ 128) × (0 < h.op → (s ≡ h.op % slots sh) × IsInRange h)
IsOfPlace sh (PreparePlace s) x = (p : Message) × (x ≡ PrepareUnit p) × (s ≡ p.header.op % slots sh) × IsInRange p.header
IsOfPlace sh (ReplyPlace k) x = (r : Message) × (x ≡ ReplyUnit r) × IsInRange r.header × IsAlone r.header
IsOfPlace sh (BlockPlace a) x = (b : Block) × (x ≡ BlockUnit b) × (b.checksum < 2 ^ 128) × AreBytes b.body

abbrev pub AreOfPlaces : Shape → Units → Type 0
AreOfPlaces sh image = (place : Place) (x : AnyUnit) → image place ≡ Some x → IsOfPlace sh place x

-- no taken prepares that end a group fit after this tail, where the ring has room for them
abbrev pub IsLongest : Shape → Units → Checkpoint → List Message → Type 0
IsLongest sh image b tail = (ps : List Message) → AreMore sh (Takes (slots sh) image b.content) b tail ps → ⊥

-- how far taken prepares go on after this tail, the part of a group that was cut off included
pub record IsReach (sh : Shape) (image : Units) (b : Checkpoint) (tail more : List Message) : Type 0 where
  pub behind : AreBehind sh (Takes (slots sh) image b.content) b tail more
  pub longest : (p : Message) → AreBehind sh (Takes (slots sh) image b.content) b tail (more ++ p ∷ []) → ⊥

-- the slot of the op after all of these: the one that is blamed where later ops left traces
abbrev pub slot_behind : Shape → Checkpoint → List Message → List Message → ℕ
slot_behind sh b tail more = (b.content.op + length tail + length more + 1) % slots sh

-- the longest list of taken prepares that ends a group, each of which fits what precedes it
pub record IsTail (sh : Shape) (image : Units) (b : Checkpoint) (tail : List Message) : Type 0 where
  pub chain : Chain (clients sh) (b.content.op + 1) b.content.op_checksum 0 b.parts.sessions tail
  pub takes : (p : Message) → In p tail → Takes (slots sh) image b.content p
  pub room : length tail ≤ slots sh
  pub grouped : AreGroups 0 b.content.op (b.content.op + 1) tail
  pub groups : AreWholeGroups (b.content.op + length tail) tail
  pub pin_ends : EndsAt b.content.pin tail
  pub reaches : b.content.pin ≤ b.content.op + length tail
  pub pinned : last_checksum b.content.op_checksum (take (b.content.pin - b.content.op) tail) ≡ b.content.pin_checksum
  pub longest : IsLongest sh image b tail

-- no unit is of a later checkpoint, and no op is past the ring
pub record NotBehind (sh : Shape) (image : Units) (c : Content) : Type 0 where
  pub header : (s : ℕ) (h : Header) → image (HeaderPlace s) ≡ Some (HeaderUnit h) → (h.checkpoint ≤ c.sequence) × (h.op ≤ c.op + slots sh) × (h.boot ≤ c.boot)
  pub prepare : (s : ℕ) (p : Message) → image (PreparePlace s) ≡ Some (PrepareUnit p) → (p.header.checkpoint ≤ c.sequence) × (p.header.op ≤ c.op + slots sh) × (p.header.boot ≤ c.boot)
  pub reply : (k : ℕ) (r : Message) → image (ReplyPlace k) ≡ Some (ReplyUnit r) → (r.header.checkpoint ≤ c.sequence) × (r.header.boot ≤ c.boot)

-- no trace of this boot of an op above the head, but for what survived of a group that was cut off
pub record NotLost (image : Units) (c : Content) (top : ℕ) : Type 0 where
  pub header : (s : ℕ) (h : Header) → image (HeaderPlace s) ≡ Some (HeaderUnit h) → h.boot ≡ c.boot → h.op ≤ top
  pub prepare : (s : ℕ) (p : Message) → image (PreparePlace s) ≡ Some (PrepareUnit p) → p.header.boot ≡ c.boot → BindsHead top p.header
  pub superblock : c.head ≤ top
  pub reply : (k : ℕ) (r : Message) → image (ReplyPlace k) ≡ Some (ReplyUnit r) → r.header.boot ≡ c.boot → (r.header.op ≤ top) × (r.header.mark ≤ top)

-- the number of replies: the greatest of the superblock's, the mark of the tail's last prepare, and the ops of the replies of this boot
pub record IsReplies (image : Units) (c : Content) (tail : List Message) (n : ℕ) : Type 0 where
  pub superblock : c.replies ≤ n
  pub mark : last_mark 0 tail ≤ n
  pub reply : (k : ℕ) (r : Message) → image (ReplyPlace k) ≡ Some (ReplyUnit r) → r.header.boot ≡ c.boot → r.header.op ≤ n
  pub reached : (c.replies ≡ n) ⊎ (last_mark 0 tail ≡ n) ⊎ ((k : ℕ) × (r : Message) × (image (ReplyPlace k) ≡ Some (ReplyUnit r)) × (r.header.op ≡ n) × (r.header.boot ≡ c.boot))

-- each stored reply is shown, and nothing else counts as stored
pub record IsStored (image : Units) (v : View) : Type 0 where
  pub shown : (k : ℕ) (s : Session) → slice_get (sessions v) k ≡ Some s → s.op ≤ v.replies → (r : Message) × (v.stored k ≡ Some r) × (image (ReplyPlace k) ≡ Some (ReplyUnit r)) × Answers s r × IsNamed v.checkpoint.content k r
  pub no_more : (k : ℕ) (r : Message) → v.stored k ≡ Some r → (s : Session) × (slice_get (sessions v) k ≡ Some s) × (s.op ≤ v.replies)

-- an open finds this state: no step refuses
pub record IsFound (sh : Shape) (image : Units) (v : View) : Type 0 where
  pub chosen : IsChosen image v.checkpoint.content
  pub checkpoint : IsSoundCheckpoint sh v.checkpoint
  pub chain_shown : (a : ℕ) (b : Block) → InChain a b v.checkpoint.chain → image (BlockPlace a) ≡ Some (BlockUnit b)
  pub not_behind : NotBehind sh image v.checkpoint.content
  pub tail : IsTail sh image v.checkpoint v.tail
  pub not_lost : NotLost image v.checkpoint.content (head v)
  pub replies : IsReplies image v.checkpoint.content v.tail v.replies
  pub stored : IsStored image v

-- beside copy 0 no copy is later than the view's content, or another one of its rank
abbrev pub IsClean : Units → View → Type 0
IsClean image v = (n : ℕ) (c : Content) → image (CopyPlace n) ≡ Some (CopyUnit c) → AgreesCopy v n c
