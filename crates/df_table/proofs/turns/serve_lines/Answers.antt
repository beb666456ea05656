-- Each turn goes on with one line more, or ends the session.
use Rattle.{std.proofs.Common.{◌∙◌, refl, sym}, df_layout.specs.declared.layout.Layout.{Layout}}
use Rattle.df_table.{specs.{Outside.{seen}, Ready.{IsSteady}, Serving.{IsServing, ServingEndsIn, ServingGoesOn, ServingState, state}}, proofs.Turned.{ended_all, goes_none, goes_on_more}}
use Rattle.df_table.proofs.turns.serve_lines.Goals as goal

pub loop-status-init : goal.loop-status-init
loop-status-init g c = record {
  goes = λ steady.
      goes_none c.args.session.now.layout (state (seen g.D.Disk.told g.S.Source.left g.W.Sink.written c.args.outside) c.args.session.now);
  steady = λ steady. steady;
  layout = refl;
  serving = c.requires;
  disk_faults = refl;
  source_faults = refl;
  sink_faults = refl;
}

pub take_turn-requires : goal.take_turn-requires
take_turn-requires g c = record { serving = rw (sym c.loop-status.invariant.layout) at c.loop-status.invariant.serving }

pub loop-status-preserved : goal.loop-status-preserved
loop-status-preserved g c = let now = c.loop-status in let layout = c.args.session.now.layout in let at = now.invariant.layout in
    let old : ServingState = state (seen g.D.Disk.told g.S.Source.left g.W.Sink.written c.args.outside) c.args.session.now in
    let mid : ServingState =
    state (record { told = g.D.Disk.told now.disk; left = g.S.Source.left now.source; written = g.W.Sink.written now.sink }) now.session in
    let new : ServingState = state (record { told = g.D.Disk.told c.take_turn.new.outside.0; left = g.S.Source.left c.take_turn.new.outside.1.0; written = g.W.Sink.written c.take_turn.new.outside.1.1.0 }) c.take_turn.new.session in
    record {
      goes = λ steady. let here = rw (sym at) at (now.invariant.steady steady) in
          goes_on_more layout old mid new (now.invariant.goes steady) (rw at at (c.in-GoesOn.ensures.turns here));
      steady = λ steady. let here = rw (sym at) at (now.invariant.steady steady) in rw at at (c.in-GoesOn.ensures.steady here);
      layout = c.in-GoesOn.ensures.next.layout ∙ at;
      serving = rw at at c.in-GoesOn.ensures.next.serving;
      disk_faults = c.in-GoesOn.ensures.disk ∙ now.invariant.disk_faults;
      source_faults = c.in-GoesOn.ensures.source ∙ now.invariant.source_faults;
      sink_faults = c.in-GoesOn.ensures.sink ∙ now.invariant.sink_faults;
    }

pub returns-in-Ends-clause-session : goal.returns-in-Ends-clause-session
returns-in-Ends-clause-session g c = λ steady. let now = c.loop-status in
    let old : ServingState = state (seen g.D.Disk.told g.S.Source.left g.W.Sink.written c.args.outside) c.args.session.now in
    let at = now.invariant.layout in
    let new : ServingState = state (record { told = g.D.Disk.told c.take_turn.new.outside.0; left = g.S.Source.left c.take_turn.new.outside.1.0; written = g.W.Sink.written c.take_turn.new.outside.1.1.0 }) c.take_turn.new.session in
    let layout = c.args.session.now.layout in let mid : ServingState =
    state (record { told = g.D.Disk.told now.disk; left = g.S.Source.left now.source; written = g.W.Sink.written now.sink }) now.session in
    let here = rw (sym at) at (now.invariant.steady steady) in
    ended_all layout old mid new c.in-Ends.status (now.invariant.goes steady) (rw at at (c.in-Ends.ensures.turns here))

pub returns-in-Ends-clause-ends : goal.returns-in-Ends-clause-ends
returns-in-Ends-clause-ends g c = c.in-Ends.ensures.never

pub loop-status-smaller : goal.loop-status-smaller
loop-status-smaller g c = c.in-GoesOn.ensures.next.budget
