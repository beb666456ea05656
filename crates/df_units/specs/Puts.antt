-- Which units each of the five kinds of write puts: a prepare, a reply, a block, a superblock copy, a header sector. A write puts
-- its own units and touches no other place, whatever fills the rest of its last sector.
use Rattle.std.specs.Prelude.{◌≡◌, ◌⊎◌, ◌<◌, ◌+◌, ◌*◌, ◌/◌, ◌%◌, ◌==◌, ℕ, if◌then◌else◌, List, [], slice_get, Option, Some, None}
use Rattle.df_base.specs.Image.{Image, IsImage, written}
use Rattle.df_layout.specs.{declared.layout.Layout.{Layout}, declared.places.Zone.TheVariants.{WalHeaders, WalPrepares, ClientReplies, Grid}}
use Rattle.df_format.specs.{declared.header.Header.{Header}, declared.superblock.SuperFields.{SuperFields}, Message.{Message}, Own.{place_in}, Super.{copy_bytes}, SuperRules.{IsUsable}}
use Rattle.df_format.specs.{Copies.{content_with}, Valid.{IsUnit}, Brings.{Brings}, UnitLaws.{AreSixteen, headers_bytes}}
use Rattle.df_theory.specs.Units
use Rattle.df_theory.specs.{Units.{AnyUnit, BlockPlace, BlockUnit, CopyPlace, CopyUnit, HeaderPlace, HeaderUnit, PreparePlace, PrepareUnit, ReplyPlace, ReplyUnit, or_else}, UnitLog.{put_one}}
use Rattle.df_theory.specs.{CopyPuts.{PutsCopies}, Device.{IsPut}}
use Rattle.df_theory.proofs.Laws.{put_one_law}
use Rattle.df_units.specs.{Meaning.{block_of, content_of, header_of, message_of}, Bytes.{first_at, unit_at}, Format.{format_of}}

-- the write of sectors that bring a prepare to its slot
abbrev pub PrepareIsPut : Type 0
PrepareIsPut =
    (layout : Layout) (cluster slot : ℕ) (u : Message) (bytes : List ℕ) → Brings layout cluster (place_in WalPrepares slot) u bytes
    → IsPut (format_of layout cluster) (first_at layout (PreparePlace slot)) bytes (put_one (PreparePlace slot) (PrepareUnit (message_of u)))

-- of a reply into its session's slot
abbrev pub ReplyIsPut : Type 0
ReplyIsPut =
    (layout : Layout) (cluster place : ℕ) (u : Message) (bytes : List ℕ) → Brings layout cluster (place_in ClientReplies place) u bytes
    → IsPut (format_of layout cluster) (first_at layout (ReplyPlace place)) bytes (put_one (ReplyPlace place) (ReplyUnit (message_of u)))

-- of a block, or a trailer block, at its address
abbrev pub BlockIsPut : Type 0
BlockIsPut =
    (layout : Layout) (cluster address : ℕ) (u : Message) (bytes : List ℕ) → Brings layout cluster (place_in Grid address) u bytes
    → IsPut (format_of layout cluster) (first_at layout (BlockPlace address)) bytes (put_one (BlockPlace address) (BlockUnit (block_of u)))

-- the put of a copy of these fields
abbrev pub put_copy : ℕ → SuperFields → Units.Units
put_copy number f = put_one (CopyPlace number) (CopyUnit (content_of (content_with f)))

-- the puts of all four
abbrev pub put_copies : (f : SuperFields) → PutsCopies (content_of (content_with f))
put_copies f = record {
  put0 = put_copy 0 f;
  put1 = put_copy 1 f;
  put2 = put_copy 2 f;
  put3 = put_copy 3 f;
  one0 = put_one_law (CopyPlace 0) (CopyUnit (content_of (content_with f)));
  one1 = put_one_law (CopyPlace 1) (CopyUnit (content_of (content_with f)));
  one2 = put_one_law (CopyPlace 2) (CopyUnit (content_of (content_with f)));
  one3 = put_one_law (CopyPlace 3) (CopyUnit (content_of (content_with f)));
}

-- of a superblock copy
abbrev pub CopyIsPut : Type 0
CopyIsPut =
    (layout : Layout) (cluster number : ℕ) (f : SuperFields) → number < 4 → IsUsable f
    → IsPut (format_of layout cluster) number (copy_bytes number f) (put_copy number f)

-- sixteen headers, each valid in its slot of a header sector; sectors are counted from the ring's first one
pub record AreHeaders (layout : Layout) (cluster sector : ℕ) (headers : List Header) : Type 0 where
  pub sixteen : AreSixteen headers
  pub inside : sector < layout.slots / 16
  pub each : (i : ℕ) (h : Header) → slice_get headers i ≡ Some h → IsUnit layout cluster (place_in WalHeaders (16 * sector + i)) (record { header = h; body = [] })

-- the unit that a header is, if there is one
abbrev pub header_unit : Option Header → Option AnyUnit
header_unit None = None
header_unit (Some h) = Some (HeaderUnit (header_of h))

-- the units of a header sector
abbrev pub put_headers : ℕ → List Header → Units.Units
put_headers sector headers (HeaderPlace s) = if s / 16 == sector then header_unit (slice_get headers (s % 16)) else None
put_headers sector headers place = None

-- of a header sector
abbrev pub HeadersArePut : Type 0
HeadersArePut =
    (layout : Layout) (cluster sector : ℕ) (headers : List Header) → AreHeaders layout cluster sector headers
    → IsPut (format_of layout cluster) (first_at layout (HeaderPlace (16 * sector))) (headers_bytes headers) (put_headers sector headers)

-- a header sector in which one header is new, and each other slot has the header that is shown there
pub record IsNextSector (layout : Layout) (cluster : ℕ) (image : Image) (new : Header) (sector : ℕ) (headers : List Header) : Type 0 where
  pub are : AreHeaders layout cluster sector headers
  pub here : new.slot / 16 ≡ sector
  pub has : slice_get headers (new.slot % 16) ≡ Some new
  pub others : (s : ℕ) (h : Header) → s / 16 ≡ sector → slice_get headers (s % 16) ≡ Some h → (s ≡ new.slot) ⊎ (unit_at layout cluster image (HeaderPlace s) ≡ Some (HeaderUnit (header_of h)))

-- after its write the new header is shown in its slot, and every other place, the other fifteen slots too, shows what it did
abbrev pub OneHeaderIsNew : Type 0
OneHeaderIsNew =
    (layout : Layout) (cluster : ℕ) (image : Image) (new : Header) (sector : ℕ) (headers : List Header) (place : Units.Place) → IsImage image → IsNextSector layout cluster image new sector headers
    → unit_at layout cluster (written (first_at layout (HeaderPlace (16 * sector))) (headers_bytes headers) image) place
    ≡ or_else (put_one (HeaderPlace new.slot) (HeaderUnit (header_of new)) place) (unit_at layout cluster image place)
