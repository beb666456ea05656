-- The notes up to this op are printed, and nothing has failed.
use Rattle.{std.proofs.Common.{◌≡◌, ◌-◌}, df_notes.specs.Showing.{AreNotesShown}}
use Rattle.df_notes.proofs.printing.print_notes.Given as goal

abbrev pub invariant-loop-before : goal.invariant-loop-before
invariant-loop-before g l = record {
  shown : AreNotesShown l.initial.replica
      (g.D.Disk.told l.initial.disk) (g.W.Sink.written l.initial.sink) (l.before - l.fn.replica.fields.op) (g.W.Sink.written l.sink);
  kept : l.replica ≡ l.initial.replica;
  same : g.D.Disk.told l.disk ≡ g.D.Disk.told l.initial.disk;
  disk_faults : g.D.Disk.faults l.disk ≡ g.D.Disk.faults l.initial.disk;
  sink_faults : g.W.Sink.faults l.sink ≡ g.W.Sink.faults l.initial.sink;
}
