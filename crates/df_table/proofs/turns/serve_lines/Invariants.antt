-- The lines so far were executed, and nothing has failed.
use Rattle.{std.proofs.Common.{◌≡◌}, df_table.specs.{Outside.{around}, Ready.{IsSteady}, Serving.{IsServing, ServingGoesOn, state}}}
use Rattle.df_table.proofs.turns.serve_lines.Given as goal

abbrev pub invariant-loop-status : goal.invariant-loop-status
invariant-loop-status g l = record {
  goes : IsSteady l.fn.session.layout l.fn.session.replica l.fn.session.table → ServingGoesOn l.fn.session.layout
      (state (around (g.D.Disk.told l.initial.disk) (g.S.Source.left l.initial.source) (g.W.Sink.written l.initial.sink)) l.fn.session)
      (state (around (g.D.Disk.told l.disk) (g.S.Source.left l.source) (g.W.Sink.written l.sink)) l.session);
  steady : IsSteady l.fn.session.layout l.fn.session.replica l.fn.session.table → IsSteady l.fn.session.layout l.session.replica l.session.table;
  layout : l.session.layout ≡ l.fn.session.layout;
  serving : IsServing l.fn.session.layout l.session (g.S.Source.left l.source);
  disk_faults : g.D.Disk.faults l.disk ≡ g.D.Disk.faults l.initial.disk;
  source_faults : g.S.Source.faults l.source ≡ g.S.Source.faults l.initial.source;
  sink_faults : g.W.Sink.faults l.sink ≡ g.W.Sink.faults l.initial.sink;
}

abbrev pub decreases-loop-status : goal.decreases-loop-status
decreases-loop-status g l = l.session.lines.reading.budget
