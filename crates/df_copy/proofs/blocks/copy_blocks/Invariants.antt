-- The blocks up to the address are written.
use Rattle.{std.proofs.Common.{◌≡◌, List, [], Ok}, df_format.specs.Message.{Message}}
use Rattle.df_copy.{specs.{Acts.{LeavesSource, beside}, Targets.{IsTarget}}, proofs.Blocking.{IsBlocking}}
use Rattle.df_copy.proofs.blocks.copy_blocks.Given as goal

abbrev pub invariant-loop-before : goal.invariant-loop-before
invariant-loop-before g l = record {
  leaves : LeavesSource {T = Unit {0}} (beside l.fn.replica (g.A.Disk.told l.fn.from) (g.A.Disk.faults l.fn.from) (g.B.Disk.faults l.fn.to))
      (beside l.replica (g.A.Disk.told l.from) (g.A.Disk.faults l.from) (g.B.Disk.faults l.to)) (Ok tt);
  layout : l.target.layout ≡ l.fn.target.layout;
  blocking : (rs : List Message) → IsTarget l.fn.target.layout l.fn.replica.file.cluster rs [] l.fn.target
      → IsBlocking l.fn.target.layout l.fn.replica rs l.target (g.A.Disk.told l.fn.from) (g.B.Disk.told l.fn.to) (g.B.Disk.told l.to) l.before;
}
