-- What the code reads of a place is the unit that the theory sees there.
use Rattle.std.specs.Prelude.{◌≡◌, ◌≢◌, ◌<◌, ℕ, List, Option, Some, None, Result, Ok, Err}
use Rattle.df_base.specs.Image.{Image, IsImage, bytes_at}
use Rattle.df_layout.specs.{declared.layout.Layout.{Layout}, declared.places.Zone.TheVariants.{Superblock, WalHeaders}, Spans.{span_of}, declared.damage.Class.{Class}}
use Rattle.df_format.specs.{declared.superblock.SuperCopy.{SuperCopy}, Copies.{content_in_copy, own_copy}, Own.{place_in}, Shown.{part_in, unit_in}}
use Rattle.df_theory.specs.Units
use Rattle.df_theory.specs.{Units.{AnyUnit, CopyPlace, HeaderPlace, IsAlone, PreparePlace, PrepareUnit}, Found.{AreOfPlaces}}
use Rattle.df_units.specs.{Meaning.{place_of}, Bytes.{copy_unit, message_unit, span_at, unit_at}, Format.{shape_of}}

-- the sectors of a slot or of a block, as they are read, are the unit of the place
abbrev pub ReadIsUnit : Type 0
ReadIsUnit =
    (layout : Layout) (cluster : ℕ) (image : Image) (place : Units.Place) → (place_of place).zone ≢ Superblock → (place_of place).zone ≢ WalHeaders
    → message_unit place (unit_in layout cluster (place_of place) (bytes_at image (span_at layout place).first (span_at layout place).count)) ≡ unit_at layout cluster image place

-- so is one header of a sector
abbrev pub HeaderReadIsUnit : Type 0
HeaderReadIsUnit =
    (layout : Layout) (cluster : ℕ) (image : Image) (slot : ℕ)
    → message_unit (HeaderPlace slot) (unit_in layout cluster (place_in WalHeaders slot) (part_in WalHeaders slot (image (span_of layout (place_in WalHeaders slot)).first))) ≡ unit_at layout cluster image (HeaderPlace slot)

-- the copy that a sector was read as, or none
abbrev pub read_copy : Result SuperCopy Class → Option AnyUnit
read_copy (Ok copy) = copy_unit (content_in_copy (Some copy))
read_copy (Err class) = None

-- the sector of a copy, as it is read
abbrev pub CopyReadIsUnit : Type 0
CopyReadIsUnit = (layout : Layout) (cluster : ℕ) (image : Image) (number : ℕ) → read_copy (own_copy number (image number)) ≡ unit_at layout cluster image (CopyPlace number)

-- each unit that an image shows is of the kind of its place, in its own slot, with its fields in their ranges
abbrev pub UnitsAreOfPlaces : Type 0
UnitsAreOfPlaces =
    (layout : Layout) (cluster : ℕ) (named : 0 < cluster) (parse : ℕ → List ℕ → Option Units.Parts) (image : Image) → IsImage image
    → AreOfPlaces (shape_of layout cluster named parse) (unit_at layout cluster image)

-- a prepare that an image shows and that no boot made is a group by itself
abbrev pub UnbootedAreAlone : Type 0
UnbootedAreAlone =
    (layout : Layout) (cluster : ℕ) (image : Image) → IsImage image
    → (s : ℕ) (p : Units.Message) → unit_at layout cluster image (PreparePlace s) ≡ Some (PrepareUnit p) → p.header.boot ≡ 0 → IsAlone p.header
