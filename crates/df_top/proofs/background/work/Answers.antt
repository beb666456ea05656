-- Each turn goes on with one piece more, or ends the session.
use Rattle.std.proofs.Common.{◌∙◌, refl}
use Rattle.df_top.{specs.{Outside.{around}, Session.{SessionState, state}}, proofs.{Passed.{leaves_on}, Progress.{on_ends, on_more, on_none}}}
use Rattle.df_top.proofs.background.work.Goals as goal

pub loop-piece-init : goal.loop-piece-init
loop-piece-init g c = record {
  turns = λ left bound. let here : SessionState = state (around (g.D.Disk.told c.args.disk.now) left (g.W.Sink.written c.args.sink.now))
      c.args.session.now in on_none c.args.session.now.pace bound here here refl;
  leaves = record { lines = refl; count = refl; pace = refl };
  live = c.requires.live;
  disk_faults = refl;
  sink_faults = refl;
}

pub loop-piece-preserved : goal.loop-piece-preserved
loop-piece-preserved g c = let now = c.loop-piece in record {
  turns = λ left bound.
      on_more (now.invariant.turns left bound) (rw now.invariant.leaves.pace at (c.in-GoesOn.ensures.turns left bound));
  leaves = leaves_on now.invariant.leaves c.do_next.ensures.does.leaves;
  live = c.in-GoesOn.ensures.does.live;
  disk_faults = c.in-GoesOn.ensures.disk ∙ now.invariant.disk_faults;
  sink_faults = c.in-GoesOn.ensures.sink ∙ now.invariant.sink_faults;
}

pub returns-in-Ends-clause-turns : goal.returns-in-Ends-clause-turns
returns-in-Ends-clause-turns g c = λ left bound. let now = c.loop-piece in
    on_ends (now.invariant.turns left bound) (rw now.invariant.leaves.pace at (c.in-Ends.ensures.turns left bound))

pub returns-in-Ends-clause-leaves : goal.returns-in-Ends-clause-leaves
returns-in-Ends-clause-leaves g c = leaves_on c.loop-piece.invariant.leaves c.do_next.ensures.does.leaves
