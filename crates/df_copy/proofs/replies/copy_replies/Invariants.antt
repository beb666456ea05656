-- The replies of the places before this one are written.
use Rattle.{std.proofs.Common.{length, Ok}, df_sessions.specs.Table.{AreDistinctClients}}
use Rattle.df_copy.{specs.{Acts.{LeavesSource, beside}, Targets.{KeepsGrid}}, proofs.{Named.{AreNamed}, Replying.{IsReplying}}}
use Rattle.df_copy.proofs.replies.copy_replies.Given as goal

abbrev pub invariant-loop-place : goal.invariant-loop-place
invariant-loop-place g l = record {
  leaves : LeavesSource {T = Unit {0}} (beside l.fn.replica (g.A.Disk.told l.fn.from) (g.A.Disk.faults l.fn.from) (g.B.Disk.faults l.fn.to))
      (beside l.replica (g.A.Disk.told l.from) (g.A.Disk.faults l.from) (g.B.Disk.faults l.to)) (Ok tt);
  named : AreNamed (length l.fn.replica.table.sessions) l.target.checks;
  grid : KeepsGrid l.fn.target l.target;
  replying : AreDistinctClients l.fn.replica.table.sessions → IsReplying
      l.fn.target.layout l.fn.replica l.target.checks (g.A.Disk.told l.fn.from) (g.B.Disk.told l.fn.to) (g.B.Disk.told l.to) l.place;
}
