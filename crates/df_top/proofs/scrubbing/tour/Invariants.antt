-- A front of the tour was made and printed, nothing but the scrubber has moved, and nothing has failed.
use Rattle.{std.proofs.Common.{◌≡◌, Some, length}, df_disk.specs.Told.{Told}, df_model.specs.Work.{first_tour}}
use Rattle.{df_session.specs.{Scrubbing.{scrub_of, with_scrub}, Below.{left_in, grid_with}}, df_top.proofs.Tours.{IsTouring}}
use Rattle.df_top.proofs.scrubbing.tour.Given as goal

abbrev pub invariant-loop-status : goal.invariant-loop-status
invariant-loop-status g l = record {
  touring : (t : Told) → g.D.Disk.told l.fn.disk ≡ Some t → l.fn.replica.tour ≡ first_tour
      → IsTouring l.fn.replica t (scrub_of l.replica) (g.W.Sink.written l.fn.sink) (g.W.Sink.written l.sink);
  moved : l.replica ≡ with_scrub l.fn.replica (scrub_of l.replica);
  same : g.D.Disk.told l.disk ≡ g.D.Disk.told l.fn.disk;
  disk_faults : g.D.Disk.faults l.disk ≡ g.D.Disk.faults l.fn.disk;
  sink_faults : g.W.Sink.faults l.sink ≡ g.W.Sink.faults l.fn.sink;
}

abbrev pub decreases-loop-status : goal.decreases-loop-status
decreases-loop-status g l = length (left_in (grid_with l.replica.file l.replica.boot l.replica.blocks) (scrub_of l.replica))
