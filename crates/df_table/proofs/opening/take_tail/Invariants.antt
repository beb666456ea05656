-- The prepares up to an op were applied.
use Rattle.{std.{proofs.Common.{◌≡◌, ◌+◌, ◌-◌, map, Ok}, specs.{Prelude.{Some}, List.{range_with_len}}}, df_disk.specs.Told.{Told}}
use Rattle.{df_model.specs.{Commands.{ReadPrepare}, Work.{Work}}, df_session.specs.{Below.{memory}, Reading.{shown_of}}}
use Rattle.df_table.{specs.{Opening.{AreFollowed, TakesBlocks}, Policy.{prepare_reads}, Ready.{IsBegun}}, proofs.Making.{IsMaking}}
use Rattle.df_table.proofs.opening.take_tail.Given as goal

abbrev pub invariant-loop-before : goal.invariant-loop-before
invariant-loop-before g l = record {
  kept : l.replica ≡ l.fn.replica;
  told : g.D.Disk.told l.disk ≡ g.D.Disk.told l.fn.disk;
  disk_faults : g.D.Disk.faults l.disk ≡ g.D.Disk.faults l.fn.disk;
  making : IsMaking (prepare_reads (memory l.fn.replica)) (map ReadPrepare (range_with_len (l.before + 1) (l.fn.replica.head - l.before)))
      l.fn.replica l.replica (g.D.Disk.told l.fn.disk) (g.D.Disk.told l.disk);
  following : (w : Work) → IsBegun l.fn.layout w l.fn.replica → (t : Told) → g.D.Disk.told l.fn.disk ≡ Some t
      → TakesBlocks l.fn.layout (shown_of l.fn.replica.file t.shown) (memory l.fn.replica) (Ok l.fn.table)
      → AreFollowed l.fn.layout (shown_of l.fn.replica.file t.shown) (memory l.fn.replica) l.before l.table;
}
