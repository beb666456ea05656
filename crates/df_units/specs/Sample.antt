-- A sample: a header sector of reserved headers, as a new file has it, and one header put into it. Sixteen headers lie in one sector,
-- and the write of all sixteen changes one slot alone.
use Rattle.std.specs.Prelude.{◌≡◌, ◌<◌, ◌+◌, ◌*◌, ◌/◌, ◌^◌, ◌==◌, ℕ, zero, suc, if◌then◌else◌, List, [], ◌∷◌, Some}
use Rattle.df_base.specs.{declared.TheConstants.{VERSION}, Image.{Image, blank, written}}
use Rattle.df_layout.specs.{declared.layout.Layout.{Layout}, declared.places.Zone.TheVariants.{WalHeaders}}
use Rattle.df_format.specs.{declared.header.Header.{Header}, declared.kind.Kind.TheVariants.{Reserved}, Making.{blank_header, for_body}, Own.{place_in}, Spelling.{sealed}, Valid.{IsUnit}}
use Rattle.df_format.specs.UnitLaws.{headers_bytes}
use Rattle.df_theory.specs.Units.{HeaderPlace, HeaderUnit}
use Rattle.df_units.specs.{Meaning.{header_of}, Bytes.{first_at, unit_at}, Puts.{AreHeaders}}

-- this many headers of a table, from a slot on
abbrev pub headers_of : (ℕ → Header) → ℕ → ℕ → List Header
headers_of table slot zero = []
headers_of table slot (suc n) = table slot ∷ headers_of table (slot + 1) n

-- the sixteen of a sector
abbrev pub sector_of : (ℕ → Header) → ℕ → List Header
sector_of table sector = headers_of table (16 * sector) 16

-- the table's headers are valid in their slots, so those of a sector may be written
abbrev pub SampleTableIsWritten : Type 0
SampleTableIsWritten =
    (layout : Layout) (cluster sector : ℕ) (table : ℕ → Header) → sector < layout.slots / 16
    → ((slot : ℕ) → slot < layout.slots → IsUnit layout cluster (place_in WalHeaders slot) (record { header = table slot; body = [] }))
    → AreHeaders layout cluster sector (sector_of table sector)

-- the header of an empty slot, of version 2: it names its slot alone, was made in no boot, and has no body
abbrev pub reserved_header : ℕ → ℕ → Header
reserved_header cluster slot = sealed (for_body (record (blank_header Reserved cluster) { slot = slot; version = VERSION }) [])

-- it is valid in its slot
abbrev pub ReservedIsUnit : Type 0
ReservedIsUnit =
    (layout : Layout) (cluster slot : ℕ) → 0 < cluster → cluster < 2 ^ 128 → slot < layout.slots
    → IsUnit layout cluster (place_in WalHeaders slot) (record { header = reserved_header cluster slot; body = [] })

-- reserved headers in every slot, and in its own slot the new header
abbrev pub with_new : ℕ → Header → ℕ → Header
with_new cluster new slot = if slot == new.slot then new else reserved_header cluster slot

-- a new disk, after the write of a sector of reserved headers
abbrev pub reserved_image : Layout → ℕ → ℕ → Image
reserved_image layout cluster sector = written (first_at layout (HeaderPlace (16 * sector))) (headers_bytes (sector_of (reserved_header cluster) sector)) blank

-- and after the write of the same sector with the new header in it
abbrev pub new_image : Layout → ℕ → Header → Image
new_image layout cluster new =
    written (first_at layout (HeaderPlace (16 * (new.slot / 16)))) (headers_bytes (sector_of (with_new cluster new) (new.slot / 16))) (reserved_image layout cluster (new.slot / 16))

-- each of the sixteen slots shows its header, the new one too
abbrev pub OneOfSixteenIsNew : Type 0
OneOfSixteenIsNew =
    (layout : Layout) (cluster slot : ℕ) (new : Header) → 0 < cluster → cluster < 2 ^ 128 → IsUnit layout cluster (place_in WalHeaders new.slot) (record { header = new; body = [] })
    → slot / 16 ≡ new.slot / 16 → unit_at layout cluster (new_image layout cluster new) (HeaderPlace slot) ≡ Some (HeaderUnit (header_of (with_new cluster new slot)))
