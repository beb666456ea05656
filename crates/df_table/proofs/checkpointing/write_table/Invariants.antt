-- The blocks so far were written.
use Rattle.{std.proofs.Common.{◌≡◌, ◌*◌, ◌≤◌, true, length}, df_rows.specs.Limits.{block_count, rows_in_block}}
use Rattle.std.specs.FinMap as map
use Rattle.df_table.{specs.Ready.{HasFree, WroteBlocks}, proofs.Wrote.{IsWriting}}
use Rattle.df_table.proofs.checkpointing.write_table.Given as goal

abbrev pub invariant-loop-block : goal.invariant-loop-block
invariant-loop-block g l = record {
  writing : l.fn.replica.file.layout ≡ l.fn.layout
      → HasFree l.fn.layout l.fn.replica.blocks (block_count (rows_in_block l.fn.layout) (map.len l.fn.table.rows))
      → IsWriting l.fn.layout l.fn.table.rows (block_count (rows_in_block l.fn.layout) (map.len l.fn.table.rows))
      l.block l.fn.replica l.replica (g.D.Disk.told l.fn.disk) (g.D.Disk.told l.disk);
  live : l.replica.live ≡ true;
  layout : l.replica.file.layout ≡ l.fn.replica.file.layout;
  wrote : WroteBlocks l.block l.fn.replica l.replica;
  buffer : 64 * rows_in_block l.fn.layout ≤ length l.buffer;
  disk_faults : g.D.Disk.faults l.disk ≡ g.D.Disk.faults l.fn.disk;
}
