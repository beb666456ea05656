-- The steps so far were taken, and the checkpoint runs on.
use Rattle.{std.{proofs.Common.{◌≡◌, ℕ, true, length}, specs.Prelude.{replicate, Some}}, df_model.specs.Commands.{Advance}}
use Rattle.{df_session.specs.Below.{RunningState}, df_table.{specs.{Calls.{IsCheckpointing}, Turns.{MakeAll}}, proofs.Steps.{IsUnder}}}
use Rattle.df_table.proofs.checkpointing.finish.Given as goal

abbrev pub invariant-loop-done : goal.invariant-loop-done
invariant-loop-done g l = record {
  makes : (n : ℕ) × MakeAll (replicate n Advance) l.fn.replica l.replica (g.D.Disk.told l.fn.disk) (g.D.Disk.told l.disk);
  live : l.replica.live ≡ true;
  runs : IsCheckpointing l.replica;
  under : (r : RunningState) → l.fn.replica.running ≡ Some r → IsUnder r l.fn.replica l.replica;
  disk_faults : g.D.Disk.faults l.disk ≡ g.D.Disk.faults l.fn.disk;
}

abbrev pub decreases-loop-done : goal.decreases-loop-done
decreases-loop-done g l = length l.replica.blocks.left
