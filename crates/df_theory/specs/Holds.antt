-- When an image holds a view: what every image that a stop may leave has to do.
use Rattle.std.specs.{Prelude.{◌≡◌, ◌<◌, ◌≤◌, ◌+◌, ◌-◌, ◌%◌, ℕ, length, slice_index, take, Some}, List.{slice_get}}
use Rattle.df_base.specs.declared.TheConstants.{GREATEST}
use Rattle.df_theory.specs.{Units.{Place, CopyPlace, HeaderPlace, BlockPlace, Header, Message, Session, Content, Block, AnyUnit, CopyUnit, HeaderUnit, BlockUnit, Units}, Sessions.{Answers}}
use Rattle.df_theory.specs.{Tails.{In, Chain, last_checksum, last_mark, AreGroups, AreWholeGroups, EndsAt}, Shape.{Shape, slots, clients}, Copies.{IsChosen}}
use Rattle.df_theory.specs.{View.{View, boot_of, head, sessions, IsSoundCheckpoint}, Shows.{Needs, Agrees}, Groups.{IsShort}}

-- a reply that the content names is the one with the named checksum; each later one is of this boot
pub record IsNamed (c : Content) (k : ℕ) (r : Message) : Type 0 where
  pub old : r.header.op < c.answered → slice_index c.reply_checksums k ≡ r.header.checksum
  pub new : c.answered ≤ r.header.op → r.header.boot ≡ c.boot

-- what the content records of the view is so, and what it doesn't record is of its boot
pub record IsRecorded (v : View) : Type 0 where
  pub pin_to : v.checkpoint.content.pin ≤ head v
  pub checksum : last_checksum v.checkpoint.content.op_checksum (take (v.checkpoint.content.pin - v.checkpoint.content.op) v.tail) ≡ v.checkpoint.content.pin_checksum
  pub tail : (p : Message) → In p v.tail → v.checkpoint.content.pin < p.header.op → p.header.boot ≡ boot_of v
  pub stored : (k : ℕ) (r : Message) → v.stored k ≡ Some r → IsNamed v.checkpoint.content k r

-- a view that makes sense by itself
pub record Sound (sh : Shape) (v : View) : Type 0 where
  pub chain : Chain (clients sh) (v.checkpoint.content.op + 1) v.checkpoint.content.op_checksum 0 v.checkpoint.parts.sessions v.tail
  pub room : length v.tail ≤ slots sh
  pub grouped : AreGroups 0 v.checkpoint.content.op (v.checkpoint.content.op + 1) v.tail
  pub groups : AreWholeGroups (head v) v.tail
  pub pin_ends : EndsAt v.checkpoint.content.pin v.tail
  pub checkpoint : IsSoundCheckpoint sh v.checkpoint
  pub head_from : v.checkpoint.content.head ≤ head v
  pub head_to : head v ≤ GREATEST
  pub pipeline : (v.replies ≤ head v) × (head v ≤ v.replies + 8)
  pub replies_from : (v.checkpoint.content.replies ≤ v.replies) × (last_mark 0 v.tail ≤ v.replies)
  pub answered : (k : ℕ) (r : Message) → v.stored k ≡ Some r → (s : Session) × (slice_get (sessions v) k ≡ Some s) × (s.op ≤ v.replies) × Answers s r
  pub stores : (k : ℕ) (s : Session) → slice_get (sessions v) k ≡ Some s → s.op ≤ v.replies → (r : Message) × (v.stored k ≡ Some r)
  pub records : IsRecorded v

-- the image shows what the view needs, and nothing that it doesn't agree with
pub record Bears (sh : Shape) (image : Units) (v : View) : Type 0 where
  pub sound : Sound sh v
  pub agrees : (place : Place) (x : AnyUnit) → image place ≡ Some x → Agrees sh v place x
  pub needs : (place : Place) (x : AnyUnit) → Needs sh v place x → image place ≡ Some x

-- and its copies choose the view's checkpoint, and no whole group is shown above its head
pub record Holds (sh : Shape) (image : Units) (v : View) : Type 0 where
  pub bears : Bears sh image v
  pub chosen : IsChosen image v.checkpoint.content
  pub short : IsShort sh image v

-- what an image that a stop left has of a view: it holds it
abbrev pub Held : Shape → Units → View → Type 0
Held = Holds

-- each block that the checkpoint references is shown, and none is a trailer's
abbrev pub Stands : Units → View → Type 0
Stands image v = (a c : ℕ) → v.checkpoint.parts.references a ≡ Some c → (b : Block) × (image (BlockPlace a) ≡ Some (BlockUnit b)) × (b.checksum ≡ c) × (0 < b.kind)

-- nothing is to be mended: four equal copies, and a valid header in each slot, that of the prepare where one of the tail stands there
pub record IsWhole (sh : Shape) (image : Units) (v : View) : Type 0 where
  pub copies : (n : ℕ) → n < 4 → image (CopyPlace n) ≡ Some (CopyUnit v.checkpoint.content)
  pub headers : (s : ℕ) → s < slots sh → (h : Header) × (image (HeaderPlace s) ≡ Some (HeaderUnit h)) × ((p : Message) → In p v.tail → s ≡ p.header.op % slots sh → p.header ≡ h)
