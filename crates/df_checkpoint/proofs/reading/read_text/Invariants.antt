-- The reader has read the text of the blocks so far.
use Rattle.{std.proofs.Common.{◌≡◌, ℕ, ◌*◌, ◌≤◌, ◌^◌, []}, df_trailer.specs.Reading.{HasRead, bytes_read}}
use Rattle.df_checkpoint.specs.Texts.{HasReadTo}
use Rattle.df_checkpoint.proofs.reading.read_text.Given as goal

abbrev pub invariant-loop-done : goal.invariant-loop-done
invariant-loop-done g l = record {
  grid : l.grid ≡ l.fn.grid;
  told : g.D.Disk.told l.disk ≡ g.D.Disk.told l.fn.disk;
  faults : g.D.Disk.faults l.disk ≡ g.D.Disk.faults l.fn.disk;
  layout : l.reader.layout ≡ l.fn.reader.layout;
  size : bytes_read l.reader ≤ l.done * 2 ^ 32;
  read : (op : ℕ) → HasRead l.fn.grid.layout op l.fn.reader [] → HasReadTo l.fn.grid (g.D.Disk.told l.fn.disk) l.fn.blocks op l.done l.reader;
}
