-- The places of a layout, and the sectors of each.
use Rattle.std.specs.Prelude.{ℕ, ◌+◌, ◌-◌, ◌*◌, ◌/◌, ◌≤◌, ◌<◌}
use Rattle.df_layout.specs.{declared.layout.Layout.{Layout}, declared.places.Place.{Place}, declared.places.Span.{Span}, declared.places.Zone.{Zone}}
use Rattle.df_layout.specs.{declared.places.Zone.TheVariants.{Superblock, WalHeaders, WalPrepares, ClientReplies, Grid}, Zones.{message_sectors, block_sectors, first_sector}}

-- the zone has a place of this number: a copy, a slot, a session's place, a block's address
abbrev pub HasIndex : Layout → Zone → ℕ → Type 0
HasIndex layout Superblock index = index < 4
HasIndex layout WalHeaders index = index < layout.slots
HasIndex layout WalPrepares index = index < layout.slots
HasIndex layout ClientReplies index = index < layout.clients
HasIndex layout Grid index = (1 ≤ index) × (index ≤ layout.blocks)

-- the layout has the place
abbrev pub HasPlace : Layout → Place → Type 0
HasPlace layout place = HasIndex layout place.zone place.index

-- how many sectors a place of the zone has; sixteen header slots share theirs
unfoldable pub place_sectors : Layout → Zone → ℕ
place_sectors layout Superblock = 1
place_sectors layout WalHeaders = 1
place_sectors layout WalPrepares = message_sectors layout
place_sectors layout ClientReplies = message_sectors layout
place_sectors layout Grid = block_sectors layout

-- how many sectors of the zone stand before the place
unfoldable pub sectors_before : Layout → Zone → ℕ → ℕ
sectors_before layout Superblock index = index
sectors_before layout WalHeaders index = index / 16
sectors_before layout WalPrepares index = index * message_sectors layout
sectors_before layout ClientReplies index = index * message_sectors layout
sectors_before layout Grid index = (index - 1) * block_sectors layout

-- the sectors of a place
unfoldable pub span_of : Layout → Place → Span
span_of layout place = record {
  first = first_sector layout place.zone + sectors_before layout place.zone place.index;
  count = place_sectors layout place.zone;
}
