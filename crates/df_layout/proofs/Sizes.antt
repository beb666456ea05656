-- How large the parts of a layout can be.
use Rattle.std.proofs.{Common.{ℕ, ◌*◌, ◌≤◌, arith}, lemmas.Nat.{mul-le}}
use Rattle.df_layout.specs.{declared.layout.Layout.{Layout}, Zones.{message_sectors, block_sectors}}

-- a prepare slot has a sector or more
pub message_sectors_within : (layout : Layout) → (1 ≤ message_sectors layout) × (message_sectors layout ≤ 256)
message_sectors_within layout = (omega arith, omega arith)

-- and so has a block
pub block_sectors_within : (layout : Layout) → (1 ≤ block_sectors layout) × (block_sectors layout ≤ 128)
block_sectors_within layout = (omega arith, omega arith)

-- this many prepare slots or reply slots have at most this many sectors
pub message_slots_within : (layout : Layout) (n most : ℕ) → n ≤ most → n * message_sectors layout ≤ most * 256
message_slots_within layout n most h = mul-le n (message_sectors layout) most 256 h (message_sectors_within layout).1

pub blocks_within : (layout : Layout) (n most : ℕ) → n ≤ most → n * block_sectors layout ≤ most * 128
blocks_within layout n most h = mul-le n (block_sectors layout) most 128 h (block_sectors_within layout).1

-- what bounds the products of a layout
pub ruleset sizes = (message_slots_within, blocks_within)
