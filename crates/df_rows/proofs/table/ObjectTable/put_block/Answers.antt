-- The rows are the entries of the map, and a block has the rows that the layout says.
use Rattle.std.{proofs.Common.{ℕ, ◌<◌, length, ap, sym, ◌∙◌}, specs.FinMap.{len-entries}}
use Rattle.df_rows.specs.Limits.{block_count, rows_in_block}
use Rattle.df_rows.proofs.table.ObjectTable.put_block.Goals as goal

pub chunk-requires-clause-block : goal.chunk-requires-clause-block
chunk-requires-clause-block c = let count = len-entries c.args.self.now.rows ∙ ap length (sym c.rows-rows.ensures.entries) in
    rw (sym c.rows_in_block.ensures.value) at (rw count at c.requires.block)
