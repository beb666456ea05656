-- The lines so far were executed, with the work after each, and nothing has failed.
use Rattle.std.proofs.Common.{◌≡◌, List}
use Rattle.df_top.specs.{Lines.{Turned}, Pacing.{IsIdleBeat}, Outside.{around}, Session.{Executed, state}, Turning.{IsReadySession}}
use Rattle.df_top.proofs.turns.serve_script.Given as goal

abbrev pub invariant-loop-status : goal.invariant-loop-status
invariant-loop-status g l = record {
  so_far : (turns : List Turned) × Executed l.fn.session.pace l.fn.session.lines.reading.bound
      (state (around (g.D.Disk.told l.initial.disk) (g.S.Source.left l.initial.source) (g.W.Sink.written l.initial.sink)) l.initial.session)
      (state (around (g.D.Disk.told l.disk) (g.S.Source.left l.source) (g.W.Sink.written l.sink)) l.session) turns;
  ready : IsReadySession l.session (g.S.Source.left l.source);
  idle : IsIdleBeat l.session.beat l.session.replica;
  bound : l.session.lines.reading.bound ≡ l.fn.session.lines.reading.bound;
  pace : l.session.pace ≡ l.fn.session.pace;
  disk_faults : g.D.Disk.faults l.disk ≡ g.D.Disk.faults l.initial.disk;
  source_faults : g.S.Source.faults l.source ≡ g.S.Source.faults l.initial.source;
  sink_faults : g.W.Sink.faults l.sink ≡ g.W.Sink.faults l.initial.sink;
}

abbrev pub decreases-loop-status : goal.decreases-loop-status
decreases-loop-status g l = l.session.lines.reading.budget
