-- The zones follow one another, and the file's size is bounded.
use Rattle.std.proofs.{Common.{◌≡◌, ◌+◌, ◌%◌, ◌^◌, ◌≤◌, ◌<◌, ◌⊎◌, inl, inr, refl, arith}, Math.Nat.{mul-mod_left}, lemmas.Grind.{div_ceil_times}}
use Rattle.df_layout.{specs.{declared.layout.Layout.{Layout}, declared.places.Zone.{Zone}, declared.places.Zone.TheVariants.{Superblock, WalHeaders, WalPrepares, ClientReplies, Grid}, Zones.{block_sectors, zone_sectors, unpadded, first_sector, end_sector, file_sectors}, Order.{ZonesFollow}}, proofs.Sizes.{block_sectors_within, message_slots_within, blocks_within}}

-- the grid begins after the replies, at a whole number of blocks, with less than a block of padding between them
record GridFollows (layout : Layout) : Type 0 where
  after : end_sector layout ClientReplies ≤ first_sector layout Grid
  padding : first_sector layout Grid < end_sector layout ClientReplies + block_sectors layout
  whole : first_sector layout Grid % block_sectors layout ≡ 0

grid_follows : (layout : Layout) → GridFollows layout
unfolding first_sector
grid_follows layout = let some = block_sectors_within layout in
    let rounded = div_ceil_times (unpadded layout) (block_sectors layout) (omega arith) in
    record { after = rounded.0; padding = rounded.1; whole = mul-mod_left _ _ }

-- the greatest layout has this many sectors before the padding
unpadded_within : (layout : Layout) → end_sector layout ClientReplies ≤ 278596
unfolding first_sector zone_sectors
unpadded_within layout = let prepares = message_slots_within layout layout.slots 1024 (omega arith) in
    let replies = message_slots_within layout layout.clients 64 (omega arith) in omega arith

grid_within : (layout : Layout) → first_sector layout Grid ≤ 278723
grid_within layout = let padding = (grid_follows layout).padding in let blocks = block_sectors_within layout in
    let end = unpadded_within layout in omega arith

pub file_within : (layout : Layout) → file_sectors layout < 2 ^ 22
unfolding zone_sectors
file_within layout = let begins = grid_within layout in let blocks = blocks_within layout layout.blocks 16384 (omega arith) in omega arith

pub zones_follow : (layout : Layout) → ZonesFollow layout
unfolding first_sector
zones_follow layout = record {
  superblock = refl;
  headers = omega arith;
  prepares = refl;
  replies = refl;
  grid = (grid_follows layout).after;
  padding = (grid_follows layout).padding;
  whole_blocks = (grid_follows layout).whole;
  bound = file_within layout;
}

-- two zones are one, or one ends before the other begins
pub zones_apart : (layout : Layout) (z w : Zone)
    → (z ≡ w) ⊎ ((end_sector layout z ≤ first_sector layout w) ⊎ (end_sector layout w ≤ first_sector layout z))
zones_apart layout Superblock Superblock = inl refl
zones_apart layout WalHeaders WalHeaders = inl refl
zones_apart layout WalPrepares WalPrepares = inl refl
zones_apart layout ClientReplies ClientReplies = inl refl
zones_apart layout Grid Grid = inl refl
zones_apart layout Superblock _ = let order = zones_follow layout in inr (inl (omega arith))
zones_apart layout _ Superblock = let order = zones_follow layout in inr (inr (omega arith))
zones_apart layout WalHeaders _ = let order = zones_follow layout in inr (inl (omega arith))
zones_apart layout _ WalHeaders = let order = zones_follow layout in inr (inr (omega arith))
zones_apart layout _ Grid = let order = zones_follow layout in inr (inl (omega arith))
zones_apart layout Grid _ = let order = zones_follow layout in inr (inr (omega arith))
zones_apart layout WalPrepares _ = let order = zones_follow layout in inr (inl (omega arith))
zones_apart layout _ WalPrepares = let order = zones_follow layout in inr (inr (omega arith))
