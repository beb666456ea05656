-- The view of a copy, beside that of its source: the same state in another layout, with the k-th referenced block at address k.
use Rattle.std.specs.Prelude.{◌≡◌, ◌↔◌, ◌<◌, ◌≤◌, ◌+◌, ℕ, List, [], length, map, slice_get, Some, None}
use Rattle.df_base.specs.{declared.TheConstants.{VERSION}, Image.{Image, IsImage, blank}}
use Rattle.df_layout.specs.declared.layout.Layout.{Layout}
use Rattle.df_theory.specs.{Found.{IsClean, IsFound}, Holds.{IsWhole, Stands}, Trailer.{InChain}, Units.{Block, BlockPlace, BlockUnit, Content, Message, PreparePlace, ReplyPlace, ReplyUnit, Units}}
use Rattle.df_theory.specs.View.{View, boot_of, head}
use Rattle.df_theory.specs.Units as units
use Rattle.df_units.specs.{Bytes.{unit_at}, Meaning.{layout_of}}
use Rattle.df_model.specs.Sense.{RiseFrom}
use Rattle.df_opening.specs.Below.{DataFile, shape}

-- ---- what stays

-- the superblock says the same, but for the layout and the trailer, which it has where the other has one
pub record SameButLayout (layout : units.Layout) (c d : Content) : Type 0 where
  pub file : (d.version ≡ c.version) × (d.cluster ≡ c.cluster)
  pub layout_is : d.layout ≡ layout
  pub sequence : d.sequence ≡ c.sequence
  pub boot : d.boot ≡ c.boot
  pub op : (d.op ≡ c.op) × (d.op_checksum ≡ c.op_checksum)
  pub head : (d.head ≡ c.head) × (d.replies ≡ c.replies)
  pub pin : (d.pin ≡ c.pin) × (d.pin_checksum ≡ c.pin_checksum)
  pub named : (d.answered ≡ c.answered) × (d.reply_checksums ≡ c.reply_checksums)
  pub trailer : (d.trailer ≡ 0) ↔ (c.trailer ≡ 0)

-- ---- blocks

-- a block with another checksum, as it has at another address: its kind, its body and its boot stay, and with the boot its version
abbrev pub renamed : (sum : ℕ) → Block → Block
renamed sum b = record b { checksum = sum }

abbrev pub block_address : ℕ × Block → ℕ
block_address x = x.0

-- these are the blocks that a view references, in order of address, as an image shows them
pub record AreReferenced (image : Units) (v : View) (blocks : List (ℕ × Block)) : Type 0 where
  pub rise : RiseFrom 1 (map block_address blocks)
  pub each : (a : ℕ) (b : Block) → InChain a b blocks → (image (BlockPlace a) ≡ Some (BlockUnit b)) × (v.checkpoint.parts.references a ≡ Some b.checksum)
  pub all : (a sum : ℕ) → v.checkpoint.parts.references a ≡ Some sum → (b : Block) × InChain a b blocks

-- the k-th of them stands at address k, counted from 1, with a checksum of its own that the view has there; and no other block is referenced
pub record AreRenamed (image : Units) (v : View) (blocks : List (ℕ × Block)) : Type 0 where
  pub each : (i a : ℕ) (b : Block) → slice_get blocks i ≡ Some (a, b) → (sum : ℕ) × (v.checkpoint.parts.references (i + 1) ≡ Some sum) × (image (BlockPlace (i + 1)) ≡ Some (BlockUnit (renamed sum b)))
  pub only : (k sum : ℕ) → v.checkpoint.parts.references k ≡ Some sum → (0 < k) × (k ≤ length blocks)

-- ---- the copy

-- a view in a target is the copy of another one in a source: a file at rest, with the same state, whose k-th block is the other's k-th
pub record IsCopyOf (layout : units.Layout) (source : Units) (v : View) (target : Units) (u : View) : Type 0 where
  pub content : SameButLayout layout v.checkpoint.content u.checkpoint.content
  pub root : u.checkpoint.parts.root ≡ v.checkpoint.parts.root
  pub sessions : u.checkpoint.parts.sessions ≡ v.checkpoint.parts.sessions
  pub rest : (v.tail ≡ []) × (u.tail ≡ [])
  pub replies : u.replies ≡ v.replies
  pub stored : (k : ℕ) → u.stored k ≡ v.stored k
  pub blocks : List (ℕ × Block)
  pub are : AreReferenced source v blocks
  pub renamed : AreRenamed target u blocks

-- nothing that binds is as new as its superblock, which counts all that there is: it shows no prepare, and replies of earlier boots alone
pub record IsOlder (image : Units) (u : View) : Type 0 where
  pub prepares : (s : ℕ) → image (PreparePlace s) ≡ None
  pub replies : (k : ℕ) (r : Message) → image (ReplyPlace k) ≡ Some (ReplyUnit r) → r.header.boot < boot_of u
  pub counted : (head u ≡ u.checkpoint.content.head) × (u.replies ≡ u.checkpoint.content.replies)

-- the file of another layout
abbrev pub file_in : Layout → DataFile → DataFile
file_in layout file = record { layout = layout; cluster = file.cluster; version = file.version; named = file.named }

-- An image of a target shows the copy of a view: an open finds it, with no copy of the superblock above the choice; each block that it references is shown, and it is older than its superblock. The file is of version 2, as the source is.
pub record ShowsCopy (layout : Layout) (file : DataFile) (source : Image) (v : View) (target : Image) : Type 0 where
  pub view : View
  pub copy : IsCopyOf (layout_of layout) (unit_at file.layout file.cluster source) v (unit_at layout file.cluster target) view
  pub found : IsFound (shape (file_in layout file)) (unit_at layout file.cluster target) view
  pub clean : IsClean (unit_at layout file.cluster target) view
  pub stands : Stands (unit_at layout file.cluster target) view
  pub older : IsOlder (unit_at layout file.cluster target) view
  pub image : IsImage target
  pub version : file.version ≡ VERSION

-- and it holds it whole: nothing is to be mended
pub record HoldsCopy (layout : Layout) (file : DataFile) (source : Image) (v : View) (target : Image) : Type 0 where
  pub shows : ShowsCopy layout file source v target
  pub whole : IsWhole (shape (file_in layout file)) (unit_at layout file.cluster target) shows.view

-- nothing was ever written there
abbrev pub IsEmptyImage : Image → Type 0
IsEmptyImage image = (sector : ℕ) → image sector ≡ blank sector
