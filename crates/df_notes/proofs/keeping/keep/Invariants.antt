-- The notes gone over are kept, and nothing has failed.
use Rattle.{std.{proofs.Common.{◌≡◌, true, take, map}, specs.Prelude.{string_bytes}}, df_notes.specs.Keeping.{AreKept}}
use Rattle.df_notes.proofs.keeping.keep.Given as goal

abbrev pub invariant-loop-note : goal.invariant-loop-note
invariant-loop-note g l = record {
  kept : AreKept (record { replica = l.initial.replica; told = g.D.Disk.told l.initial.disk; written = g.W.Sink.written l.initial.sink })
      (map string_bytes (take l.note-index l.notes))
      (record { replica = l.replica; told = g.D.Disk.told l.disk; written = g.W.Sink.written l.sink });
  live : l.replica.live ≡ true;
  disk_faults : g.D.Disk.faults l.disk ≡ g.D.Disk.faults l.initial.disk;
  sink_faults : g.W.Sink.faults l.sink ≡ g.W.Sink.faults l.initial.sink;
}
