-- The commands so far were made and answered, and nothing has failed.
use Rattle.{std.proofs.Common.{◌≡◌}, df_workload.specs.Sound.{left}, df_top.specs.Works.{CanGoOn, Works}}
use Rattle.df_top.proofs.working.go_through.Given as goal

abbrev pub invariant-loop-disk : goal.invariant-loop-disk
invariant-loop-disk g l = record {
  works : Works l.fn.run.generator l.fn.run.replica (g.D.Disk.told l.fn.disk) l.run.generator l.run.replica (g.D.Disk.told l.disk);
  ready : CanGoOn l.run.generator l.run.replica;
  disk_faults : g.D.Disk.faults l.disk ≡ g.D.Disk.faults l.fn.disk;
}

abbrev pub decreases-loop-disk : goal.decreases-loop-disk
decreases-loop-disk g l = left l.run.generator
