-- The blocks up to an address were taken.
use Rattle.{std.{proofs.Common.{◌≡◌, ◌+◌, ◌-◌, ◌≤◌, length}, specs.{Prelude.{Some}, List.{range_with_len}}}, df_disk.specs.Told.{Told}}
use Rattle.{df_model.specs.{Blocks.{entries}, Work.{Work}}, df_session.specs.{Below.{memory}, Reading.{shown_of}}}
use Rattle.df_table.{specs.{Opening.{NoneIsOther}, Policy.{block_reads}, Ready.{IsBegun}, Table.{empty_table}}, proofs.{Making.{IsMaking}, Taking.{IsTaking, reads_of}}}
use Rattle.df_table.proofs.opening.take_blocks.Given as goal

abbrev pub invariant-loop-before : goal.invariant-loop-before
invariant-loop-before g l = record {
  kept : l.replica ≡ l.fn.replica;
  told : g.D.Disk.told l.disk ≡ g.D.Disk.told l.fn.disk;
  disk_faults : g.D.Disk.faults l.disk ≡ g.D.Disk.faults l.fn.disk;
  few : l.taken.count ≤ l.before;
  making : (w : Work) → IsBegun l.fn.layout w l.fn.replica
      → IsMaking (block_reads (memory l.fn.replica)) (reads_of (entries w.live (range_with_len
      (l.before + 1) (l.fn.layout.blocks - l.before)))) l.fn.replica l.replica (g.D.Disk.told l.fn.disk) (g.D.Disk.told l.disk);
  taking : (w : Work) → IsBegun l.fn.layout w l.fn.replica → NoneIsOther (memory l.fn.replica) (length (memory l.fn.replica).sessions)
      → l.fn.table ≡ empty_table l.fn.layout → (t : Told) → g.D.Disk.told l.fn.disk ≡ Some t → IsTaking
      l.fn.layout (shown_of l.fn.replica.file t.shown) (memory l.fn.replica) w.live l.fn.layout.blocks l.before l.taken.table l.taken.count;
}
