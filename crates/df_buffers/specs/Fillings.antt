-- Filled rooms: rooms with a body after the place of a header.
use Rattle.std.specs.Prelude.{◌≡◌, ◌+◌, ◌≤◌, ℕ, List, take, drop}
use Rattle.df_base.specs.{declared.TheConstants.{HEADER}, Fields.{check_of}}
use Rattle.df_layout.specs.{declared.layout.Layout.{Layout}, declared.places.Zone.{Zone}}
use Rattle.df_format.specs.Whole.{greatest_size}
use Rattle.df_buffers.specs.Rooms.{FillsRoom}

-- what a filled room is seen as: the layout that it was reserved for, and the body
pub record Filling : Type 0 where
  pub layout : Layout
  pub body : List ℕ

-- the body of this many bytes that follows the place of a header
abbrev pub filling_of : Layout → ℕ → List ℕ → Filling
filling_of layout count bytes = record { layout = layout; body = take count (drop HEADER bytes) }

-- the room has the length of its layout's, a unit with the body fits a place of the zone, and the checksum is the body's
pub record IsFilled (zone : Zone) (layout : Layout) (count : ℕ) (sum bytes : List ℕ) : Type 0 where
  pub fills : FillsRoom layout zone bytes
  pub fits : HEADER + count ≤ greatest_size layout zone
  pub summed : sum ≡ check_of (take count (drop HEADER bytes))
