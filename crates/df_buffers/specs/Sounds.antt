-- Sound rooms: rooms whose bytes are a unit that is valid at its own place.
use Rattle.std.specs.Prelude.{◌≡◌, ◌-◌, ◌%◌, ◌<◌, ◌≤◌, ◌+◌, ℕ, List, length, replicate, take, drop, Some}
use Rattle.df_base.specs.declared.TheConstants.{HEADER, SECTOR}
use Rattle.df_layout.specs.{declared.layout.Layout.{Layout}, declared.places.Place.{Place}, declared.places.Zone.{Zone}}
use Rattle.df_format.specs.{declared.header.Header.{Header}, declared.kind.Kind.{Kind}, Message.{Message, sectors_end}, Shown.{unit_in}, Valid.{IsUnit}, Brings.{Brings}}
use Rattle.df_buffers.specs.Rooms.{FillsRoom, room_size}

-- what a sound room is seen as: the layout that it was reserved for, its unit, and its bytes
pub record Holding : Type 0 where
  pub layout : Layout
  pub unit : Message
  pub bytes : List ℕ

-- the unit of a header, whose body follows the header's 256 bytes
abbrev pub unit_with : Header → List ℕ → Message
unit_with header bytes = record { header = header; body = take (header.size - HEADER) (drop HEADER bytes) }

-- the bytes of a room that hold the unit of a header
abbrev pub holding_of : Layout → Header → List ℕ → Holding
holding_of layout header bytes = record { layout = layout; unit = unit_with header bytes; bytes = bytes }

-- the room has the length of its layout's, and its bytes are a unit of the kind that is valid at a place of the zone
pub record IsSound (zone : Zone) (kind : Kind) (holding : Holding) : Type 0 where
  pub fills : FillsRoom holding.layout zone holding.bytes
  pub of_kind : holding.unit.header.kind ≡ kind
  pub place : Place
  pub in_zone : place.zone ≡ zone
  pub is : IsUnit holding.layout holding.unit.header.cluster place holding.unit
  pub valid : unit_in holding.layout holding.unit.header.cluster place holding.bytes ≡ Some holding.unit

-- the bytes are whole sectors, one at least, and no more than a room of the zone has
pub record AreWholeSectors (zone : Zone) (layout : Layout) (bytes : List ℕ) : Type 0 where
  pub some : 0 < length bytes
  pub whole : length bytes % SECTOR ≡ 0
  pub fits : length bytes ≤ room_size layout zone

-- the bytes bring the room's unit to its own place in the zone
pub record BringsOwn (zone : Zone) (holding : Holding) (bytes : List ℕ) : Type 0 where
  pub place : Place
  pub in_zone : place.zone ≡ zone
  pub is : IsUnit holding.layout holding.unit.header.cluster place holding.unit
  pub brings : Brings holding.layout holding.unit.header.cluster place holding.unit bytes

-- after this many bytes there are zeros
abbrev pub EndsInZeros : ℕ → List ℕ → Type 0
EndsInZeros size bytes = drop size bytes ≡ replicate (length bytes - size) 0

-- the sectors of the unit hold zeros after it
abbrev pub IsTidy : Holding → Type 0
IsTidy holding = EndsInZeros (HEADER + length holding.unit.body) (take (sectors_end holding.unit.header.size) holding.bytes)
