-- How many blocks rows take, and that a table's rows fit its blocks.
use Rattle.std.proofs.{Common.{◌≡◌, ℕ, suc, ◌+◌, ◌*◌, ◌<◌, ◌≤◌, inl, inr, arith}, Math.Nat.{mul_comm, mul-le-mul_right}, lemmas.Bool.{cases_lt}, lemmas.Grind.{div_ceil_times}}
use Rattle.df_layout.specs.declared.layout.Layout.{Layout}
use Rattle.df_rows.specs.{Limits.{block_count, blocks_of_table, rows_in_block}, Laws.{TablesFit}}

next_of : (k per : ℕ) → suc k * per ≡ k * per + per
next_of k per = omega arith

-- the blocks have room for all rows
pub blocks_cover : (per n : ℕ) → 0 < per → n ≤ block_count per n * per
blocks_cover per n some = (div_ceil_times n per some).0

-- there are no more blocks than have room for the rows
pub blocks_within : (per n m : ℕ) → 0 < per → n ≤ per * m → block_count per n ≤ m
blocks_within per n m some fits = elim (cases_lt m (block_count per n)) [
  | inl more ↦ absurd (omega (arith, mul-le-mul_right per more, (div_ceil_times n per some).1, next_of m per, mul_comm per m))
  | inr few ↦ few
]

-- ---- a layout's table

pub some_rows : (layout : Layout) → 60 ≤ rows_in_block layout
some_rows layout = omega (arith, layout.block_size_within)

pub tables_fit : TablesFit
tables_fit layout rows few = record {
  blocks = blocks_within (rows_in_block layout) rows (blocks_of_table layout) (omega (arith, some_rows layout)) (omega arith);
  bodies = omega arith;
  three = omega (arith, layout.blocks_within);
}
