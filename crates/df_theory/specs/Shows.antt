-- What an image with a view must show, and what it may show, place by place.
use Rattle.std.specs.Prelude.{◌≡◌, ◌⊎◌, ◌<◌, ◌≤◌, ◌+◌, ◌%◌, ℕ, Some}
use Rattle.df_theory.specs.Units.{Place, CopyPlace, HeaderPlace, PreparePlace, ReplyPlace, BlockPlace, Header, Message, Content, Block, AnyUnit, CopyUnit, HeaderUnit, PrepareUnit, ReplyUnit, BlockUnit, IsAlone}
use Rattle.df_theory.specs.{Shape.{Shape, slots}, Tails.{In, BindsHead}, Trailer.{InChain}, Copies.{rank_of}, View.{View, boot_of, head, sequence}}

-- the units that must be shown: the tail, the stored replies and the trailer
abbrev pub Needs : Shape → View → Place → AnyUnit → Type 0
Needs sh v (CopyPlace n) x = ⊥
Needs sh v (HeaderPlace s) x = ⊥
Needs sh v (PreparePlace s) x = (p : Message) × In p v.tail × (s ≡ p.header.op % slots sh) × (x ≡ PrepareUnit p)
Needs sh v (ReplyPlace k) x = (r : Message) × (v.stored k ≡ Some r) × (x ≡ ReplyUnit r)
Needs sh v (BlockPlace a) x = (b : Block) × InChain a b v.checkpoint.chain × (x ≡ BlockUnit b)

-- a header agrees: it is no newer than the view, and one of the view's boot above the pin is that of a prepare of the tail
pub record AgreesHeader (sh : Shape) (v : View) (s : ℕ) (h : Header) : Type 0 where
  pub op : h.boot ≡ boot_of v → h.op ≤ head v
  pub ring : h.op ≤ v.checkpoint.content.op + slots sh
  pub checkpoint : h.checkpoint ≤ sequence v
  pub boot : h.boot ≤ boot_of v
  pub slot : 0 < h.op → s ≡ h.op % slots sh
  pub in_tail : h.boot ≡ boot_of v → v.checkpoint.content.pin < h.op → (p : Message) × In p v.tail × (p.header.op ≡ h.op) × (p.header.checksum ≡ h.checksum)

-- a prepare agrees: it is no newer than the view, and one of its boot above the pin is of the tail, or survived of a group that was cut off
pub record AgreesPrepare (sh : Shape) (v : View) (s : ℕ) (p : Message) : Type 0 where
  pub some : 0 < p.header.op
  pub op : p.header.boot ≡ boot_of v → BindsHead (head v) p.header
  pub ring : p.header.op ≤ v.checkpoint.content.op + slots sh
  pub checkpoint : p.header.checkpoint ≤ sequence v
  pub boot : p.header.boot ≤ boot_of v
  pub slot : s ≡ p.header.op % slots sh
  pub in_tail : p.header.boot ≡ boot_of v → v.checkpoint.content.pin < p.header.op → p.header.op ≤ head v → In p v.tail

-- a reply agrees: it is no newer than the view
pub record AgreesReply (v : View) (r : Message) : Type 0 where
  pub op : r.header.boot ≡ boot_of v → r.header.op ≤ v.replies
  pub mark : r.header.boot ≡ boot_of v → r.header.mark ≤ head v
  pub checkpoint : r.header.checkpoint ≤ sequence v
  pub boot : r.header.boot ≤ boot_of v
  pub alone : IsAlone r.header

-- a copy agrees: it has the view's content or a lower one; copy 0 may have any, as a stopped update leaves it
abbrev pub AgreesCopy : View → ℕ → Content → Type 0
AgreesCopy v n c = (n ≡ 0 → ⊥) → (c ≡ v.checkpoint.content) ⊎ (rank_of c < rank_of v.checkpoint.content)

-- what may be shown
abbrev pub Agrees : Shape → View → Place → AnyUnit → Type 0
Agrees sh v (CopyPlace n) x = (c : Content) × (x ≡ CopyUnit c) × AgreesCopy v n c
Agrees sh v (HeaderPlace s) x = (h : Header) × (x ≡ HeaderUnit h) × AgreesHeader sh v s h
Agrees sh v (PreparePlace s) x = (p : Message) × (x ≡ PrepareUnit p) × AgreesPrepare sh v s p
Agrees sh v (ReplyPlace k) x = (r : Message) × (x ≡ ReplyUnit r) × AgreesReply v r
Agrees sh v (BlockPlace a) x = Unit {0}
