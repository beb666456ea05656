-- How many sectors each zone has, and where it begins.
use Rattle.std.specs.{Prelude.{ℕ, ◌+◌, ◌*◌, ◌/◌}, Int.{div_ceil}}
use Rattle.df_layout.specs.{declared.layout.TheConstants.{SECTOR}, declared.layout.Layout.{Layout}, declared.places.Zone.{Zone}}
use Rattle.df_layout.specs.declared.places.Zone.TheVariants.{Superblock, WalHeaders, WalPrepares, ClientReplies, Grid}

-- sectors of a prepare slot and of a reply slot
abbrev pub message_sectors : Layout → ℕ
message_sectors layout = layout.message_size / SECTOR

-- sectors of a block
abbrev pub block_sectors : Layout → ℕ
block_sectors layout = layout.block_size / SECTOR

-- how many sectors a zone has, without the padding before the grid
unfoldable pub zone_sectors : Layout → Zone → ℕ
zone_sectors layout Superblock = 4
zone_sectors layout WalHeaders = layout.slots / 16
zone_sectors layout WalPrepares = layout.slots * message_sectors layout
zone_sectors layout ClientReplies = layout.clients * message_sectors layout
zone_sectors layout Grid = layout.blocks * block_sectors layout

-- how many sectors stand before the padding
abbrev pub unpadded : Layout → ℕ
unpadded layout =
    zone_sectors layout Superblock + zone_sectors layout WalHeaders + zone_sectors layout WalPrepares + zone_sectors layout ClientReplies

-- the first sector of a zone: what stands before it, up to a whole number of blocks for the grid
unfoldable pub first_sector : Layout → Zone → ℕ
first_sector layout Superblock = 0
first_sector layout WalHeaders = zone_sectors layout Superblock
first_sector layout WalPrepares = zone_sectors layout Superblock + zone_sectors layout WalHeaders
first_sector layout ClientReplies = zone_sectors layout Superblock + zone_sectors layout WalHeaders + zone_sectors layout WalPrepares
first_sector layout Grid = div_ceil (unpadded layout) (block_sectors layout) * block_sectors layout

-- the sector after the last one of a zone
abbrev pub end_sector : Layout → Zone → ℕ
end_sector layout zone = first_sector layout zone + zone_sectors layout zone

-- how many sectors the file has
abbrev pub file_sectors : Layout → ℕ
file_sectors layout = end_sector layout Grid
