-- Known units: those whose checksum the chosen superblock fixes, by itself or through known units that the image shows.
use Rattle.std.specs.{Prelude.{◌≡◌, ◌<◌, ◌≤◌, ◌+◌, ◌%◌, ℕ, List, length, slice_index, Some}, List.{slice_get}}
use Rattle.df_format.specs.{declared.kind.Kind.{Kind}, declared.kind.Kind.TheVariants.{Block as AsBlock, Prepare as AsPrepare, Reply as AsReply, Reserved, Trailer as AsTrailer}}
use Rattle.df_theory.specs.{Opens.{AreKnown, ReadsTo, named_by}, Sessions.{Has, sessions_after}, Shape.{Shape, slots}, Trailer.{InChain, IsTrailer}}
use Rattle.df_theory.specs.Units.{AnyUnit, Block, BlockPlace, BlockUnit, Content, Message, Parts, Place, PreparePlace, PrepareUnit, ReplyPlace, ReplyUnit, Session, Units}
use Rattle.df_units.specs.Wanted.{IsOfKind, checksum_of}

-- the image shows the unit of this kind with this checksum at the place
pub record IsShownAs (image : Units) (kind : Kind) (place : Place) (sum : ℕ) : Type 0 where
  pub unit : AnyUnit
  pub shown : image place ≡ Some unit
  pub of_kind : IsOfKind kind unit
  pub sum_is : checksum_of unit ≡ sum

-- ---- what is known

-- the trailer that the superblock names is shown whole, and this is what it says
pub record ShowsTrailer (sh : Shape) (image : Units) (c : Content) : Type 0 where
  pub chain : List (ℕ × Block)
  pub parts : Parts
  pub trailer : IsTrailer sh c chain parts
  pub shown : (a : ℕ) (b : Block) → InChain a b chain → image (BlockPlace a) ≡ Some (BlockUnit b)

-- the trailer passes the tests of an open: it is shown whole, and each op that waits for its reply is that of a session
pub record PassesTrailer (sh : Shape) (image : Units) (c : Content) : Type 0 where
  pub says : ShowsTrailer sh image c
  pub pending : (n : ℕ) → c.replies < n → n ≤ c.op → Has says.parts.sessions n

-- a block that the trailer references
pub record IsReferencedBlock (sh : Shape) (image : Units) (c : Content) (a sum : ℕ) : Type 0 where
  pub says : ShowsTrailer sh image c
  pub reference : says.parts.references a ≡ Some sum

-- the slot of a prepare above the checkpoint that the superblock names, or that the one after it names: all later ones up to the superblock's head are shown as they are named
pub record IsNamedPrepare (sh : Shape) (image : Units) (c : Content) (s sum : ℕ) : Type 0 where
  pub op : ℕ
  pub above : c.op < op
  pub slot_is : s ≡ op % slots sh
  pub later : List Message
  pub known : AreKnown (slots sh) image (op + 1) c.pin_checksum later
  pub count : op + length later ≡ c.pin
  pub sum_is : sum ≡ named_by c.pin_checksum later

-- the sessions at the superblock's head: those of the trailer, as the named prepares change them
pub record HasSessions (sh : Shape) (image : Units) (c : Content) (ss : List Session) : Type 0 where
  pub says : ShowsTrailer sh image c
  pub named : List Message
  pub known : AreKnown (slots sh) image (c.op + 1) c.pin_checksum named
  pub count : c.op + length named ≡ c.pin
  pub sessions_are : ss ≡ sessions_after says.parts.sessions named

-- Of a session at the superblock's head the reply that the superblock recorded. It isn't known where something newer of the superblock's boot is shown: in its slot a reply above those that are recorded, or a prepare of its client above the head.
pub record IsRecordedReply (sh : Shape) (image : Units) (c : Content) (k sum : ℕ) : Type 0 where
  pub sessions : List Session
  pub has : HasSessions sh image c sessions
  pub session : Session
  pub at : slice_get sessions k ≡ Some session
  pub sum_is : sum ≡ slice_index c.reply_checksums k
  pub some : 0 < sum
  pub no_reply : (r : Message) → image (ReplyPlace k) ≡ Some (ReplyUnit r) → r.header.boot ≡ c.boot → r.header.op ≤ c.replies
  pub no_prepare : (s : ℕ) (p : Message) → image (PreparePlace s) ≡ Some (PrepareUnit p) → p.header.boot ≡ c.boot → c.pin < p.header.op → p.header.client ≡ session.client → ⊥

-- the unit of this kind with this checksum is known at the place
abbrev pub IsKnownAt : Shape → Units → Content → Kind → Place → ℕ → Type 0
IsKnownAt sh image c AsTrailer (BlockPlace a) sum = ReadsTo sh image c a sum
IsKnownAt sh image c AsBlock (BlockPlace a) sum = IsReferencedBlock sh image c a sum
IsKnownAt sh image c AsPrepare (PreparePlace s) sum = IsNamedPrepare sh image c s sum
IsKnownAt sh image c AsReply (ReplyPlace k) sum = IsRecordedReply sh image c k sum
IsKnownAt sh image c kind place sum = ⊥

-- each known unit is shown
abbrev pub AllShown : Shape → Units → Content → Type 0
AllShown sh image c = (kind : Kind) (place : Place) (sum : ℕ) → IsKnownAt sh image c kind place sum → IsShownAs image kind place sum

-- each known unit of this kind is
abbrev pub AreShown : Shape → Units → Content → Kind → Type 0
AreShown sh image c kind = (place : Place) (sum : ℕ) → IsKnownAt sh image c kind place sum → IsShownAs image kind place sum

-- no known unit that is shown stands at this place
abbrev pub IsSparePlace : Shape → Units → Content → Place → Type 0
IsSparePlace sh image c place = (kind : Kind) (at : Place) (sum : ℕ) → IsKnownAt sh image c kind at sum → IsShownAs image kind at sum → at ≡ place → ⊥

-- ---- their order

-- the kinds in the order in which they are mended
abbrev pub rank_of_kind : Kind → ℕ
rank_of_kind Reserved = 0
rank_of_kind AsTrailer = 1
rank_of_kind AsBlock = 2
rank_of_kind AsPrepare = 3
rank_of_kind AsReply = 4

-- A unit of the first kind and place comes before one of the others: by kind, referenced blocks by address, and replies by place. Of the trailer, and of the prepares, at most one that is known lacks at a time, as each is known only where all before it are shown.
abbrev pub ComesBefore : (kind later : Kind) (place at : Place) → Type 0
ComesBefore AsBlock AsBlock (BlockPlace a) (BlockPlace e) = a < e
ComesBefore AsReply AsReply (ReplyPlace j) (ReplyPlace k) = j < k
ComesBefore kind later place at = rank_of_kind kind < rank_of_kind later

-- each known unit that comes before is shown
abbrev pub AreShownBefore : Shape → Units → Content → Kind → Place → Type 0
AreShownBefore sh image c kind place = (before : Kind) (at : Place) (sum : ℕ) → ComesBefore before kind at place → IsKnownAt sh image c before at sum → IsShownAs image before at sum

-- where the unit is no block of the trailer, that passes the tests of an open
abbrev pub PassesBefore : Shape → Units → Content → Kind → Type 0
PassesBefore sh image c AsTrailer = Unit {0}
PassesBefore sh image c kind = PassesTrailer sh image c

-- the first known unit that isn't shown, where the trailer isn't refused before it
pub record IsNext (sh : Shape) (image : Units) (c : Content) (kind : Kind) (place : Place) (sum : ℕ) : Type 0 where
  pub known : IsKnownAt sh image c kind place sum
  pub lacks : IsShownAs image kind place sum → ⊥
  pub first : AreShownBefore sh image c kind place
  pub trailer : PassesBefore sh image c kind

-- the unit is the next to be proved: it is known, all that come before it are shown, and where it isn't shown it may be written at its place
pub record IsDue (sh : Shape) (image : Units) (c : Content) (kind : Kind) (place : Place) (sum : ℕ) : Type 0 where
  pub known : IsKnownAt sh image c kind place sum
  pub first : AreShownBefore sh image c kind place
  pub trailer : PassesBefore sh image c kind
  pub spare : (IsShownAs image kind place sum → ⊥) → IsSparePlace sh image c place
