-- The table of the header ring, and what writes of its sectors do.
use Rattle.std.specs.Prelude.{◌≡◌, ◌<◌, ◌*◌, ◌/◌, ◌^◌, ℕ, List, [], ◌∷◌, ◌++◌, length, take, drop, slice_get, slice_set, Some}
use Rattle.df_base.specs.Log.{Event, Write}
use Rattle.df_layout.specs.{declared.layout.Layout.{Layout}, declared.places.Zone.TheVariants.{WalHeaders}}
use Rattle.df_format.specs.{declared.header.Header.{Header}, Own.{place_in}, UnitLaws.{headers_bytes}, Valid.{IsUnit}}
use Rattle.df_theory.specs.{Units.{HeaderPlace}, Runs.{Puts, Step}}
use Rattle.df_units.specs.{Bytes.{first_at}, Sample.{reserved_header}, Puts.{AreHeaders, put_headers}}

-- the header is valid in the slot of the header ring
abbrev pub IsHeader : Layout → ℕ → ℕ → Header → Type 0
IsHeader layout cluster slot h = IsUnit layout cluster (place_in WalHeaders slot) (record { header = h; body = [] })

-- one header for each slot of the layout, each valid in its slot
pub record IsHeaderTable (layout : Layout) (cluster : ℕ) (table : List Header) : Type 0 where
  pub count : length table ≡ layout.slots
  pub each : (slot : ℕ) (h : Header) → slice_get table slot ≡ Some h → IsHeader layout cluster slot h

-- the sixteen headers of a sector
abbrev pub in_sector : ℕ → List Header → List Header
in_sector sector table = take 16 (drop (16 * sector) table)

-- the event of its write
abbrev pub sector_events : Layout → ℕ → List Header → List Event
sector_events layout sector table = Write (first_at layout (HeaderPlace (16 * sector))) (headers_bytes (in_sector sector table)) ∷ []

-- what it is in the words of the theory: the sixteen headers are put into their slots
abbrev pub sector_steps : ℕ → List Header → List Step
sector_steps sector table = Puts (put_headers sector (in_sector sector table)) ∷ []

-- each is a sector of the ring
abbrev pub AreOfRing : Layout → List ℕ → Type 0
AreOfRing layout sectors = (i sector : ℕ) → slice_get sectors i ≡ Some sector → sector < layout.slots / 16

-- the writes of sectors of the table
abbrev pub sector_writes : Layout → List Header → List ℕ → List Event
sector_writes layout table [] = []
sector_writes layout table (sector ∷ sectors) = sector_events layout sector table ++ sector_writes layout table sectors

-- in the words of the theory
abbrev pub header_write_steps : List Header → List ℕ → List Step
header_write_steps table [] = []
header_write_steps table (sector ∷ sectors) = sector_steps sector table ++ header_write_steps table sectors

-- each sector of a table may be written
abbrev pub TableIsWritten : Type 0
TableIsWritten = (layout : Layout) (cluster sector : ℕ) (table : List Header) → IsHeaderTable layout cluster table → sector < layout.slots / 16 → AreHeaders layout cluster sector (in_sector sector table)

-- with a valid header put into its slot it is still a table
abbrev pub TableIsKept : Type 0
TableIsKept = (layout : Layout) (cluster slot : ℕ) (table : List Header) (h : Header) → IsHeaderTable layout cluster table → IsHeader layout cluster slot h → IsHeaderTable layout cluster (slice_set table slot h)

-- each slot has a reserved header
abbrev pub AreReserved : ℕ → List Header → Type 0
AreReserved cluster table = (slot : ℕ) → slot < length table → slice_get table slot ≡ Some (reserved_header cluster slot)

-- such a table may be written
abbrev pub ReservedIsTable : Type 0
ReservedIsTable = (layout : Layout) (cluster : ℕ) (table : List Header) → 0 < cluster → cluster < 2 ^ 128 → length table ≡ layout.slots → AreReserved cluster table → IsHeaderTable layout cluster table
