-- A file as it is made: from the empty image to its first view.
use Rattle.std.specs.Prelude.{◌≡◌, ℕ, List, [], ◌∷◌, slice_index, Some, None}
use Rattle.df_theory.specs.{Units.{Place, CopyPlace, HeaderPlace, Header, Content, AnyUnit, CopyUnit, HeaderUnit, Units, IsReserved}, Shape.{Shape}, Copies.{IsSplit}, Trailer.{no_parts}}
use Rattle.df_theory.specs.View.{View, PassesTests}

-- the superblock of a file that was just made: sequence 1, and nothing else; no reply is named
pub record IsFirstContent (sh : Shape) (c : Content) : Type 0 where
  pub tests : PassesTests sh c
  pub sequence : c.sequence ≡ 1
  pub numbers : (c.op ≡ 0) × (c.op_checksum ≡ 0) × (c.head ≡ 0) × (c.replies ≡ 0)
  pub pin : (c.boot ≡ 0) × (c.pin ≡ 0) × (c.pin_checksum ≡ 0)
  pub named : (k : ℕ) → slice_index c.reply_checksums k ≡ 0
  pub trailer : (c.trailer ≡ 0) × (c.trailer_checksum ≡ 0) × (c.trailer_size ≡ 0)

-- the first view: nothing was appended yet
pub record IsFirst (sh : Shape) (v : View) : Type 0 where
  pub content : IsFirstContent sh v.checkpoint.content
  pub chain : v.checkpoint.chain ≡ []
  pub parts : v.checkpoint.parts ≡ no_parts
  pub tail : v.tail ≡ []
  pub replies : v.replies ≡ 0
  pub stored : (k : ℕ) → v.stored k ≡ None

-- a reserved header, or a copy of this superblock
abbrev pub IsMade : Content → Place → AnyUnit → Type 0
IsMade c (CopyPlace n) x = x ≡ CopyUnit c
IsMade c (HeaderPlace s) x = (h : Header) × (x ≡ HeaderUnit h) × IsReserved h
IsMade c place x = ⊥

-- nothing but these is shown
abbrev pub ShowsMade : Content → Units → Type 0
ShowsMade c image = (place : Place) (x : AnyUnit) → image place ≡ Some x → IsMade c place x

-- from the empty image on nothing but these was settled, and never two copies
abbrev pub AreMade : Content → List Units → Type 0
AreMade c [] = ⊥
AreMade c (image ∷ []) = (place : Place) → image place ≡ None
AreMade c (image ∷ before ∷ images) = ShowsMade c image × IsSplit image × AreMade c (before ∷ images)
