-- The place that a unit belongs at: what its header names, by where it is read, if the layout has that place.
use Rattle.std.specs.Prelude.{◌%◌, ◌==◌, ℕ, Bool, true, ◌&&◌, nat_lt, nat_le, if◌then◌else◌, Option, Some, None}
use Rattle.df_layout.specs.{declared.layout.Layout.{Layout}, declared.places.Place.{Place}, declared.places.Zone.{Zone}}
use Rattle.df_layout.specs.declared.places.Zone.TheVariants.{Superblock, WalHeaders, WalPrepares, ClientReplies, Grid}
use Rattle.df_format.specs.{declared.header.Header.{Header}, declared.kind.Kind.{Kind}, declared.kind.Kind.TheVariants.{Reserved, Prepare, Reply, Block, Trailer}}

-- the place of a zone with this number
abbrev pub place_in : Zone → ℕ → Place
place_in zone index = record { zone = zone; index = index }

-- read in the header ring, a reserved header and that of a prepare name their slot there
abbrev pub named_in_ring : Kind → Header → Option Place
named_in_ring Reserved h = Some (place_in WalHeaders h.slot)
named_in_ring Prepare h = Some (place_in WalHeaders h.slot)
named_in_ring _ h = None

-- read elsewhere, each kind names a place of its zone, but a reserved header, which is no unit there
abbrev pub named_elsewhere : Kind → Header → Option Place
named_elsewhere Reserved h = None
named_elsewhere Prepare h = Some (place_in WalPrepares h.slot)
named_elsewhere Reply h = Some (place_in ClientReplies h.slot)
named_elsewhere Block h = Some (place_in Grid h.op)
named_elsewhere Trailer h = Some (place_in Grid h.op)

-- the place that a header names, by the zone that it is read in; no header stands in the superblock
abbrev pub named_place : Zone → Header → Option Place
named_place Superblock h = None
named_place WalHeaders h = named_in_ring h.kind h
named_place WalPrepares h = named_elsewhere h.kind h
named_place ClientReplies h = named_elsewhere h.kind h
named_place Grid h = named_elsewhere h.kind h

-- a prepare's slot is the one of its op
abbrev pub has_op_of_slot : Layout → Kind → Header → Bool
has_op_of_slot layout Prepare h = h.slot == h.op % layout.slots
has_op_of_slot layout _ h = true

-- the layout has a place of this number in the zone
abbrev pub has_index : Layout → Zone → ℕ → Bool
has_index layout Superblock index = nat_lt index 4
has_index layout WalHeaders index = nat_lt index layout.slots
has_index layout WalPrepares index = nat_lt index layout.slots
has_index layout ClientReplies index = nat_lt index layout.clients
has_index layout Grid index = nat_le 1 index && nat_le index layout.blocks

-- the place, if the layout has it
abbrev pub inside : Layout → Option Place → Option Place
inside layout None = None
inside layout (Some place) = if has_index layout place.zone place.index then Some place else None

-- the own place of a unit that is read in a zone
unfoldable pub own_place : Layout → Zone → Header → Option Place
own_place layout zone h = if has_op_of_slot layout h.kind h then inside layout (named_place zone h) else None
