-- What is read of an address, in the words of the machine.
use Rattle.std.specs.{Prelude.{◌≡◌, ℕ, ◌==◌, if◌then◌else◌, List, Option, Some, None, Result, Ok, Err}, Str.{bytes_eq}}
use Rattle.df_base.specs.Image.{Image}
use Rattle.df_disk.specs.Told.{Told}
use Rattle.df_layout.specs.{declared.damage.Class.{Class}, declared.damage.Class.TheVariants.{Stale}, declared.layout.Layout.{Layout}, declared.places.Zone.TheVariants.{Grid}}
use Rattle.df_format.specs.{declared.header.Header.{Header}, declared.kind.Kind.TheVariants.{Block as AsBlock}, Own.{place_in}, Spelling.{IsCheck}}
use Rattle.df_buffers.specs.{declared.identity.Identity.{Identity}, declared.identity.Wanted.TheVariants.{Checksum}, Sounds.{Holding}}
use Rattle.df_theory.specs.Units.{Block}
use Rattle.df_model.specs.Supply.{Shown, block_at, given_if, no_trailer}
use Rattle.df_units.specs.{Bytes.{unit_at}, Meaning.{block_of}, Wanted.{class_at}}
use Rattle.df_grid.specs.Grid.{IsKnownBlock}

-- what an image shows, place by place, in the words of the machine
abbrev pub shown_of : Layout → ℕ → Image → Shown
shown_of layout cluster image = record { units = unit_at layout cluster image; damage = class_at layout cluster image }

-- a block is answered exactly where the disk shows it with the checksum that is known, and it is no trailer's; else the class of what is shown is
abbrev pub ReadsBlock : Layout → ℕ → Option Told → ℕ → Option ℕ → Result Block Class → Type 0
ReadsBlock layout cluster None address known answer = Unit {0}
ReadsBlock layout cluster (Some t) address known answer = answer ≡ no_trailer (block_at (shown_of layout cluster t.shown) known address)

-- so it is with a room that an address is read into: it holds the block, or the class says what is wrong
abbrev pub Loads : Layout → ℕ → Option Told → ℕ → Option ℕ → Option Class → Option Holding → Type 0
Loads layout cluster told address known None (Some held) = ReadsBlock layout cluster told address known (Ok (block_of held.unit))
Loads layout cluster told address known None None = ⊥
Loads layout cluster told address known (Some class) held = ReadsBlock layout cluster told address known (Err class)

-- whatever the disk tells, where nothing is wrong the room holds the known block
abbrev pub HoldsKnown : Layout → ℕ → ℕ → Option ℕ → Option Class → Option Holding → Type 0
HoldsKnown layout cluster address known None (Some held) = IsKnownBlock AsBlock layout cluster address known held.unit
HoldsKnown layout cluster address known None None = ⊥
HoldsKnown layout cluster address known (Some class) held = Unit {0}

-- any other block isn't read as a trailer's
abbrev pub trailer_alone : Result Block Class → Result Block Class
trailer_alone (Ok b) = given_if (b.kind == 0) b Stale
trailer_alone (Err class) = Err class

-- and so is a trailer's block
abbrev pub ReadsTrailer : Layout → ℕ → Option Told → ℕ → ℕ → Result Block Class → Type 0
ReadsTrailer layout cluster None address sum answer = Unit {0}
ReadsTrailer layout cluster (Some t) address sum answer = answer ≡ trailer_alone (block_at (shown_of layout cluster t.shown) (Some sum) address)

-- what is wrong with an answer, if anything is
abbrev pub class_in : Result Block Class → Option Class
class_in (Ok b) = None
class_in (Err class) = Some class

-- nothing is wrong exactly where the disk shows a block of either kind with this checksum
abbrev pub Tests : Layout → ℕ → Option Told → ℕ → ℕ → Option Class → Type 0
Tests layout cluster None address sum answer = Unit {0}
Tests layout cluster (Some t) address sum answer = answer ≡ class_in (block_at (shown_of layout cluster t.shown) (Some sum) address)

-- what is wrong with a valid unit that has a checksum, where another one is wanted
abbrev pub differs : List ℕ → List ℕ → Option Class
differs shown wanted = if bytes_eq shown wanted then None else Some Stale

-- so it is with what is seen: both checksums have sixteen bytes
abbrev pub IsFaultOf : Result Header Class → List ℕ → Option Class → Type 0
IsFaultOf (Ok header) wanted answer = IsCheck header.checksum × IsCheck wanted × (answer ≡ differs header.checksum wanted)
IsFaultOf (Err class) wanted answer = answer ≡ Some class

-- the unit with this checksum, at an address
abbrev pub at_address : Layout → ℕ → ℕ → List ℕ → Identity
at_address layout cluster a check = record { layout = layout; cluster = cluster; place = place_in Grid a; wanted = Checksum check }
