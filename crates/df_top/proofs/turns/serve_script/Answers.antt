-- Each turn goes on with one line more and the work after it, or ends the session.
use Rattle.{std.proofs.Common.{[], ◌++◌, refl, ◌∙◌, ap}, df_lines.specs.Room.{ReaderParts}}
use Rattle.df_top.{specs.{Outside.{Outside, seen}, Session.{state}}, proofs.{Passed.{worked_ready}, Progress.{executed_none, on_ends, on_more}}}
use Rattle.df_top.proofs.turns.serve_script.Goals as goal

pub loop-status-init : goal.loop-status-init
loop-status-init g c = let outside : Outside = seen g.D.Disk.told g.S.Source.left g.W.Sink.written c.args.outside in record {
  so_far = ([], executed_none c.args.session.now.pace c.args.session.now.lines.reading.bound (state outside c.args.session.now));
  ready = c.requires.ready;
  idle = c.requires.idle;
  bound = refl;
  pace = refl;
  disk_faults = refl;
  source_faults = refl;
  sink_faults = refl;
}

pub loop-status-preserved : goal.loop-status-preserved
loop-status-preserved g c = let now = c.loop-status in let bound = c.args.session.now.lines.reading.bound in
    let line = rw now.invariant.pace at (rw now.invariant.bound at c.in-GoesOn.ensures.turns) in
    let work = rw (c.take_line.ensures.takes.pace
    ∙ now.invariant.pace) at (c.in-GoesOn-work.ensures.turns (g.S.Source.left c.take_line.new.outside.1.0) bound) in
    let done = now.invariant.so_far in let more = on_more line work _ done.0 done.1 in
    record {
      so_far = (done.0 ++ more.0, more.1);
      ready = worked_ready c.in-GoesOn.ensures.takes.ready c.work.ensures.leaves c.in-GoesOn-work.ensures.live;
      idle = c.in-GoesOn-work.ensures.idle;
      bound = ap (λ (r : ReaderParts). r.reading.bound) c.work.ensures.leaves.lines ∙ c.take_line.ensures.takes.bound ∙ now.invariant.bound;
      pace = c.work.ensures.leaves.pace ∙ c.take_line.ensures.takes.pace ∙ now.invariant.pace;
      disk_faults = c.in-GoesOn-work.ensures.disk ∙ c.in-GoesOn.ensures.disk ∙ now.invariant.disk_faults;
      source_faults = c.in-GoesOn.ensures.source ∙ now.invariant.source_faults;
      sink_faults = c.in-GoesOn-work.ensures.sink ∙ c.in-GoesOn.ensures.sink ∙ now.invariant.sink_faults;
    }

pub returns-in-Ends-clause-session : goal.returns-in-Ends-clause-session
returns-in-Ends-clause-session g c = let now = c.loop-status in let done = now.invariant.so_far in
    let ends = rw now.invariant.pace at (rw now.invariant.bound at c.in-Ends.ensures.turns) in ends _ done.0 done.1

pub returns-in-Ends-work-clause-session : goal.returns-in-Ends-work-clause-session
returns-in-Ends-work-clause-session g c = let now = c.loop-status in let bound = c.args.session.now.lines.reading.bound in
    let line = rw now.invariant.pace at (rw now.invariant.bound at c.in-GoesOn.ensures.turns) in
    let work = rw (c.take_line.ensures.takes.pace
    ∙ now.invariant.pace) at (c.in-Ends-work.ensures.turns (g.S.Source.left c.take_line.new.outside.1.0) bound) in
    let done = now.invariant.so_far in on_ends line work _ done.0 done.1
