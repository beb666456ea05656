-- The calls that write a block and let one go: what a write makes, what it asks of the disk, and the states that they lead to. No state of the machine is in sight.
use Rattle.std.specs.Prelude.{◌≡◌, ◌<◌, ◌≤◌, ◌+◌, ℕ, false, List, Option, Some, None, Result, Ok, Err, true}
use Rattle.df_base.specs.{declared.TheConstants.{HEADER, VERSION}, Log.{Event}}
use Rattle.df_disk.specs.{Told.{Told}, Adds.{AddsPart, after_all}}
use Rattle.df_layout.specs.{declared.layout.Layout.{Layout}, declared.places.Zone.TheVariants.{Grid}}
use Rattle.df_format.specs.{declared.header.Header.{Header}, declared.kind.Kind.TheVariants.{Block as AsBlock}, declared.reference.Reference.{Reference}, Making.{blank_header}, Message.{Message}}
use Rattle.df_units.specs.Meaning.{number_of}
use Rattle.df_grid.specs.{Grid.{GridState, IsUnheld}, Writes.{made_events}}
use Rattle.df_model.specs.{Blocks.{Blocks, block_released, block_written, is_held_in}, Making.{next_address}, Refusals.{block_refusals, first_refusal, release_refusals}}
use Rattle.df_model.specs.{declared.errors.BlockError.{BlockError}, declared.errors.NotLive.{NotLive}}
use Rattle.df_model.specs.declared.errors.BlockError.TheVariants as block
use Rattle.df_opening.specs.Below.{State, grid_with, memory}
use Rattle.df_replica.specs.{Appending.{MayBeMade, unit_made}, Stopping.{stopped}}

-- ---- a write

-- what the maker of a block at an address says of it: its cluster, its address, its kind and the boot alone
abbrev pub block_header_given : State → (address kind : ℕ) → Header
block_header_given s address kind = record (blank_header AsBlock s.file.cluster) { op = address; block_kind = kind; version = VERSION; boot = s.fields.boot }

-- the next block: it goes to the least address that isn't held
abbrev pub next_block : State → (kind : ℕ) → List ℕ → Message
next_block s kind body = unit_made (block_header_given s (next_address (memory s)) kind) body

-- one write into its place, and no sync
abbrev pub block_events : State → Message → List Event
block_events s u = made_events s.file.layout u

-- the state with these blocks
abbrev pub with_grid_blocks : State → Blocks → State
with_grid_blocks s b = record s { blocks = b }

-- the state with a live block more
abbrev pub written : State → Header → State
written s h = with_grid_blocks s (block_written s.blocks h.op (number_of h.checksum))

abbrev pub reference_of : Header → Reference
reference_of h = record { address = h.op; checksum = h.checksum }

-- a block that isn't refused, as far as the code needs it
pub record MayWriteNext (s : State) (kind size : ℕ) : Type 0 where
  pub live : s.live ≡ true
  pub named : 0 < kind
  pub fits : HEADER + size ≤ s.file.layout.block_size
  pub free : IsUnheld (grid_with s.file s.boot s.blocks) (next_address (memory s))

-- a block may be made of a header and a body in a room, and written into the grid
pub record MayPut (room : Layout) (g : GridState) (h : Header) (body : List ℕ) : Type 0 where
  -- the room is of the grid's layout
  pub room_is : room ≡ g.layout
  -- the header is of its cluster
  pub cluster : h.cluster ≡ g.cluster
  -- a block may be made of it
  pub may : MayBeMade g.layout Grid AsBlock h body
  -- its address isn't held
  pub free : is_held_in g.blocks h.op ≡ false

-- the first refusal, or else the address
abbrev pub address_or : Option BlockError → ℕ → Result ℕ BlockError
address_or None address = Ok address
address_or (Some e) address = Err e

-- what a write of a block answers, with the state after it and what the disk then tells: exact for a reference and for each refusal; after a fault the replica isn't live,
-- nothing else in memory moved, and the write was made or not
abbrev pub IsWriteBlock : (kind : ℕ) → List ℕ → (s t : State) → (old new : Option Told) → Result Reference BlockError → Type 0
IsWriteBlock kind body s t old new (Ok reference) =
    let u = next_block s kind body in
    (first_refusal (block_refusals (memory s) kind body) ≡ None) × (reference ≡ reference_of u.header) × (t ≡ written s u.header) × (new ≡ after_all (block_events s u) old)
IsWriteBlock kind body s t old new (Err block.DiskFault) =
    (first_refusal (block_refusals (memory s) kind body) ≡ None) × (t ≡ stopped s) × AddsPart (block_events s (next_block s kind body)) old new
IsWriteBlock kind body s t old new (Err e) = (first_refusal (block_refusals (memory s) kind body) ≡ Some e) × (t ≡ s) × (new ≡ old)

-- ---- a release

-- the state with a live block less
abbrev pub released : State → (address : ℕ) → State
released s address = with_grid_blocks s (block_released s.blocks address)

-- what a release answers, with the state after it: it is refused exactly where the address isn't live, and changes nothing then
abbrev pub IsRelease : {A : Type 0} → (address : ℕ) → (s t : State) → Result A NotLive → Type 0
IsRelease address s t (Ok done) = (first_refusal (release_refusals (memory s) address) ≡ None) × (t ≡ released s address)
IsRelease address s t (Err e) = (first_refusal (release_refusals (memory s) address) ≡ Some e) × (t ≡ s)
