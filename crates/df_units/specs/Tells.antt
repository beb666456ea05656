-- What the units of the theory tell of those of the file: their checksums, their kinds, and the headers of a sector.
use Rattle.std.specs.Prelude.{◌≡◌, ◌↔◌, ◌<◌, ◌/◌, ◌%◌, ◌*◌, ◌+◌, ℕ, List, ◌∷◌, replicate, slice_get, Some}
use Rattle.df_layout.specs.{declared.layout.Layout.{Layout}, declared.places.Zone.TheVariants.{Grid}}
use Rattle.df_format.specs.{declared.header.Header.{Header}, declared.kind.Kind.TheVariants.{Reserved, Trailer}, Spelling.{IsCheck, no_checksum}, Message.{Message}, Own.{place_in}, Valid.{IsUnit}}
use Rattle.df_format.specs.UnitLaws.{AreSixteen}
use Rattle.df_theory.specs.Units
use Rattle.df_theory.specs.{Units.{AnyUnit, HeaderPlace, HeaderUnit}, MakingLaws.{PutsReserved}, MendLaws.{PutsTable}}
use Rattle.df_units.specs.{Meaning.{block_of, header_of, number_of}, Puts.{put_headers}}

-- checksums are equal exactly where their numbers are
abbrev pub ChecksumsAreNumbers : Type 0
ChecksumsAreNumbers = (a b : List ℕ) → IsCheck a → IsCheck b → (number_of a ≡ number_of b) ↔ (a ≡ b)

-- zeros, which stand where there is no checksum, are 0
abbrev pub NoChecksumIsZero : Type 0
NoChecksumIsZero = number_of no_checksum ≡ 0

-- the first byte of a checksum is the lowest of its number
abbrev pub FirstByteIsLowest : Type 0
FirstByteIsLowest = (byte : ℕ) → byte < 256 → number_of (byte ∷ replicate 15 0) ≡ byte

-- a block is a trailer block exactly where it has a sequence, and where it has kind 0
abbrev pub TrailersTell : Type 0
TrailersTell =
    (layout : Layout) (cluster address : ℕ) (u : Message) → IsUnit layout cluster (place_in Grid address) u
    → ((u.header.kind ≡ Trailer) ↔ (0 < (block_of u).sequence)) × ((u.header.kind ≡ Trailer) ↔ ((block_of u).kind ≡ 0))

-- each unit that a header sector puts is one of its headers, in its slot
abbrev pub SectorPuts : Type 0
SectorPuts =
    (sector : ℕ) (headers : List Header) (place : Units.Place) (y : AnyUnit) → put_headers sector headers place ≡ Some y
    → (s : ℕ) × (h : Header) × (place ≡ HeaderPlace s) × (y ≡ HeaderUnit (header_of h)) × (s / 16 ≡ sector) × (slice_get headers (s % 16) ≡ Some h)

-- sixteen reserved headers
abbrev pub ReservedArePut : Type 0
ReservedArePut =
    (sector : ℕ) (headers : List Header) → AreSixteen headers → ((i : ℕ) (h : Header) → slice_get headers i ≡ Some h → h.kind ≡ Reserved) → PutsReserved (put_headers sector headers)

-- headers as a table has them
abbrev pub TableIsPut : Type 0
TableIsPut =
    (sector : ℕ) (headers : List Header) (table : ℕ → Header) → ((i : ℕ) (h : Header) → slice_get headers i ≡ Some h → h ≡ table (16 * sector + i)) → PutsTable (λ s. header_of (table s)) (put_headers sector headers)
