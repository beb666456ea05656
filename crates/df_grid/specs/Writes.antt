-- What is written of a block: one write into its place, which is the machine's put of one unit.
use Rattle.std.specs.Prelude.{◌≡◌, ◌==◌, ◌<◌, ℕ, if◌then◌else◌, List, [], ◌∷◌, length, Option, Some, None}
use Rattle.df_base.specs.{Fields.{spelled}, Log.{Event, Write}}
use Rattle.df_layout.specs.{declared.layout.Layout.{Layout}, declared.places.Zone.TheVariants.{Grid}, Spans.{span_of}}
use Rattle.df_format.specs.{declared.header.Header.{Header}, declared.kind.Kind.TheVariants.{Trailer}, declared.reference.Reference.{Reference}, Making.{blank_header, for_body}}
use Rattle.df_format.specs.{Message.{Message, sectors_of}, Own.{place_in}, Spelling.{no_checksum, sealed}}
use Rattle.df_buffers.specs.Sounds.{Holding}
use Rattle.df_theory.specs.{Runs.{Step}, Units.{BlockPlace, BlockUnit}}
use Rattle.df_theory.specs.Units
use Rattle.df_model.specs.{Blocks.{Blocks}, Making.{first_of}}
use Rattle.df_units.specs.Meaning.{block_of}
use Rattle.df_places.specs.Units.{put_events, put_steps}
use Rattle.df_grid.specs.Grid.{GridState}

-- a sound block is written into its own place
abbrev pub block_events : GridState → Holding → List Event
block_events g held = put_events g.layout (place_in Grid held.unit.header.op) held

-- in the machine's words, the block is put at its address
abbrev pub block_steps : Message → List Step
block_steps u = put_steps (BlockPlace u.header.op) (BlockUnit (block_of u))

-- ---- the running trailer

abbrev pub first_address : List (ℕ × ℕ) → ℕ
first_address [] = 0
first_address (x ∷ xs) = x.0

abbrev pub first_sum : List (ℕ × ℕ) → ℕ
first_sum [] = 0
first_sum (x ∷ xs) = x.1

-- a unit that is made of a header and a body
abbrev pub made : Header → List ℕ → Message
made header body = record { header = sealed (for_body header body); body = body }

-- the version of a unit that is made in this boot: version 2 counts its boots from 1, and version 1 has none
abbrev pub version_in : ℕ → ℕ
version_in boot = if boot == 0 then 1 else 2

-- the header of a trailer block at an address, after the block with this checksum, if there is one
abbrev pub header_with : (cluster boot address index sequence before : ℕ) → List ℕ → Header
header_with cluster boot address index sequence before parent = record (blank_header Trailer cluster) {
  parent = parent;
  op = address;
  request = before;
  mark = index;
  checkpoint = sequence;
  version = version_in boot;
  boot = boot;
}

-- that of the running trailer's next block: its index is how many are written, and before it stands the one that was written last
abbrev pub next_header : (cluster boot sequence : ℕ) → Blocks → Header
next_header cluster boot sequence b = header_with cluster boot (first_of b.left) (length b.written) sequence (first_address b.written) (spelled 16 (first_sum b.written))

-- the running trailer's next block, over this piece of the text
abbrev pub next_unit : GridState → (sequence : ℕ) → List ℕ → Message
next_unit g sequence piece = made (next_header g.cluster g.boot sequence g.blocks) piece

-- in the machine's words
abbrev pub next_block : GridState → (sequence : ℕ) → List ℕ → (sum : ℕ) → Units.Block
next_block g sequence piece sum = record {
  checksum = sum;
  kind = 0;
  sequence = sequence;
  index = length g.blocks.written;
  before = first_address g.blocks.written;
  before_checksum = first_sum g.blocks.written;
  boot = g.boot;
  body = piece;
}

-- what was made is written into its place
abbrev pub made_events : Layout → Message → List Event
made_events layout u = Write (span_of layout (place_in Grid u.header.op)).first (sectors_of u) ∷ []

-- the address and the checksum of a block, if there is one
abbrev pub address_in : Option Reference → ℕ
address_in None = 0
address_in (Some r) = r.address

abbrev pub checksum_in : Option Reference → List ℕ
checksum_in None = no_checksum
checksum_in (Some r) = r.checksum

-- a trailer block has another one before it exactly where it isn't the first
abbrev pub IsBefore : ℕ → Option Reference → Type 0
IsBefore index None = index ≡ 0
IsBefore index (Some r) = (0 < index) × (0 < r.address)
