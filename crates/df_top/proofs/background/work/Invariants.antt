-- The pieces so far were done, and nothing has failed.
use Rattle.{std.proofs.Common.{◌≡◌, true, List, ℕ, Option}, df_pace.specs.Beats.{pieces_left}}
use Rattle.df_top.specs.{Outside.{around}, Session.{state}, Step.{SessionGoesOn}, Turning.{LeavesReader}}
use Rattle.df_top.proofs.background.work.Given as goal

abbrev pub invariant-loop-piece : goal.invariant-loop-piece
invariant-loop-piece g l = record {
  turns : (left : Option (List ℕ)) (bound : ℕ)
      → SessionGoesOn l.fn.session.pace bound (state (around (g.D.Disk.told l.fn.disk) left (g.W.Sink.written l.fn.sink)) l.fn.session)
      (state (around (g.D.Disk.told l.disk) left (g.W.Sink.written l.sink)) l.session);
  leaves : LeavesReader l.fn.session l.session;
  live : l.session.replica.live ≡ true;
  disk_faults : g.D.Disk.faults l.disk ≡ g.D.Disk.faults l.fn.disk;
  sink_faults : g.W.Sink.faults l.sink ≡ g.W.Sink.faults l.fn.sink;
}

abbrev pub decreases-loop-piece : goal.decreases-loop-piece
decreases-loop-piece g l = pieces_left l.session.beat.due
