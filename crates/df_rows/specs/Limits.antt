-- How many rows a table has at most, and how many blocks it takes.
use Rattle.std.specs.{Prelude.{ℕ, ◌+◌, ◌-◌, ◌*◌, ◌/◌, ◌≤◌, min}, Int.{div_ceil}}
use Rattle.df_base.specs.declared.TheConstants.{HEADER}
use Rattle.df_layout.specs.declared.layout.Layout.{Layout}

-- the rows of one block: 64 bytes each, after the block's header
abbrev pub rows_in_block : Layout → ℕ
rows_in_block layout = (layout.block_size - HEADER) / 64

-- the blocks of one table: a third of all but four, so that a table that is written stands beside the one that the durable checkpoint holds,
-- with both trailers
abbrev pub blocks_of_table : Layout → ℕ
blocks_of_table layout = (layout.blocks - 4) / 3

-- the rows of a table
abbrev pub most_rows : Layout → ℕ
most_rows layout = min 65536 (rows_in_block layout * blocks_of_table layout)

-- how many blocks of this many rows these rows take; the last may have fewer
abbrev pub block_count : (per rows : ℕ) → ℕ
block_count per rows = div_ceil rows per

-- a table takes this many blocks at most, each of which has its rows, and three tables leave four blocks
pub record FitsLayout (layout : Layout) (rows : ℕ) : Type 0 where
  pub blocks : block_count (rows_in_block layout) rows ≤ blocks_of_table layout
  pub bodies : 64 * rows_in_block layout ≤ layout.block_size - HEADER
  pub three : 3 * blocks_of_table layout + 4 ≤ layout.blocks
