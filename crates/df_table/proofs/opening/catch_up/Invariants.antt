-- The ops so far have their replies.
use Rattle.{std.{proofs.Common.{◌≡◌, ◌+◌, ◌-◌, [], map, true}, specs.List.{range_with_len}}, df_model.specs.Commands.{Reply}}
use Rattle.{df_session.specs.Below.{memory}, df_table.{specs.Policy.{replies}, proofs.{Begun.{HasReplied}, Making.{IsMaking}}}}
use Rattle.df_table.proofs.opening.catch_up.Given as goal

abbrev pub invariant-loop-before : goal.invariant-loop-before
invariant-loop-before g l = record {
  replied : HasReplied l.before l.fn.replica l.replica;
  live : l.replica.live ≡ true;
  making : IsMaking (replies (memory l.fn.replica)) (map (λ op. Reply op []) (range_with_len (l.before + 1) (l.fn.replica.head - l.before)))
      l.fn.replica l.replica (g.D.Disk.told l.fn.disk) (g.D.Disk.told l.disk);
  disk_faults : g.D.Disk.faults l.disk ≡ g.D.Disk.faults l.fn.disk;
}
