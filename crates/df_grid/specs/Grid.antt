-- The grid as its callers see it: the file's layout and cluster, the boot, and what the machine knows of the blocks.
use Rattle.std.specs.Prelude.{◌≡◌, ◌<◌, ◌≤◌, ◌^◌, ℕ, false, Option, Some, List}
use Rattle.df_base.specs.declared.TheConstants.{GREATEST}
use Rattle.df_layout.specs.{declared.layout.Layout.{Layout}, declared.places.Zone.TheVariants.{Grid}}
use Rattle.df_format.specs.{declared.kind.Kind.{Kind}, Message.{Message}, Own.{place_in}, Valid.{IsUnit}}
use Rattle.df_model.specs.Blocks.{Blocks, free_in, is_held_in, referenced_in}
use Rattle.df_units.specs.Meaning.{layout_of, number_of}

pub record GridState : Type 0 where
  pub layout : Layout
  pub cluster : ℕ
  pub boot : ℕ  -- that a trailer block is sealed in, 0 where none was set
  pub blocks : Blocks

-- the grid with other blocks
abbrev pub with_blocks : GridState → Blocks → GridState
with_blocks g b = record { layout = g.layout; cluster = g.cluster; boot = g.boot; blocks = b }

-- the grid in another boot
abbrev pub with_boot : GridState → ℕ → GridState
with_boot g boot = record { layout = g.layout; cluster = g.cluster; boot = boot; blocks = g.blocks }

-- the addresses that aren't held, from the least on
abbrev pub free_addresses : GridState → List ℕ
free_addresses g = free_in (layout_of g.layout) g.blocks

-- each referenced address with its checksum, from the least on
abbrev pub referenced_of : GridState → List (ℕ × ℕ)
referenced_of g = referenced_in (layout_of g.layout) g.blocks

-- an address of the grid
abbrev pub HasAddress : GridState → ℕ → Type 0
HasAddress g a = (1 ≤ a) × (a ≤ g.layout.blocks)

-- an address of the grid that isn't held
pub record IsUnheld (g : GridState) (a : ℕ) : Type 0 where
  pub inside : HasAddress g a
  pub unheld : is_held_in g.blocks a ≡ false

-- what holds of the parts of a grid: a table of the layout's addresses, and rooms of the layout
pub record IsGrid (layout : Layout) (cluster boot size : ℕ) (of_block of_trailer : Layout) : Type 0 where
  pub named : 0 < cluster
  pub fits : cluster < 2 ^ 128
  pub boots : boot ≤ GREATEST
  pub size_is : size ≡ layout.blocks
  pub block : of_block ≡ layout
  pub trailer : of_trailer ≡ layout

-- the unit is one of the kind that is valid at the address, with the checksum that is known
pub record IsKnownBlock (kind : Kind) (layout : Layout) (cluster address : ℕ) (known : Option ℕ) (u : Message) : Type 0 where
  pub is : IsUnit layout cluster (place_in Grid address) u
  pub of_kind : u.header.kind ≡ kind
  pub sum : known ≡ Some (number_of u.header.checksum)
