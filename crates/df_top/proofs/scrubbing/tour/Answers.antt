-- Each check lists what it found, and leaves less to be checked; at the end nothing is left.
use Rattle.{std.proofs.Common.{◌∙◌, Ok, Option, ap, refl}, df_inspect.proofs.Laws.{appends_none}, df_disk.specs.Told.{Told}}
use Rattle.{df_model.specs.declared.answers.Scrubbed.TheVariants.{Checked}, df_session.specs.{Scrubbing.{IsScrub}, Below.{State}}}
use Rattle.df_top.{specs.{Touring.{TakesStep}, declared.status.Status.{Status}}, proofs.Tours.{ends, ends_so, fewer, found_told, goes_on, same_on, starts, went_on}}
use Rattle.df_program.specs.declared.turn.Turn.TheVariants.{Ends}
use Rattle.df_top.proofs.scrubbing.tour.Goals as goal

pub loop-status-init : goal.loop-status-init
loop-status-init g c = record {
  touring = λ t told first.
      starts c.args.replica.now t (g.W.Sink.written c.args.sink.now) first (appends_none (g.W.Sink.written c.args.sink.now));
  moved = refl;
  same = refl;
  disk_faults = refl;
  sink_faults = refl;
}

pub check_next-requires : goal.check_next-requires
check_next-requires g c = record { live = ap (λ (s : State). s.live) c.loop-status.invariant.moved ∙ c.requires.live }

pub loop-status-smaller : goal.loop-status-smaller
loop-status-smaller g c = let now = c.loop-status in let on = went_on now.replica c.check_next.new.replica
    (g.D.Disk.told now.disk) (g.W.Sink.written now.sink) (g.W.Sink.written c.check_next.new.sink) c.in-GoesOn.ensures.steps in
    fewer now.replica c.check_next.new.replica (g.D.Disk.told now.disk) on.0 on.1 on.2

pub loop-status-preserved : goal.loop-status-preserved
loop-status-preserved g c = let now = c.loop-status in let u = now.replica in let v = c.check_next.new.replica in let on =
    went_on u v (g.D.Disk.told now.disk) (g.W.Sink.written now.sink) (g.W.Sink.written c.check_next.new.sink) c.in-GoesOn.ensures.steps in
    record {
      touring = λ t told first. goes_on c.args.replica.now t u v (g.W.Sink.written c.args.sink.now) (g.W.Sink.written now.sink)
          (g.W.Sink.written c.check_next.new.sink) on.0 on.1 now.invariant.moved (now.invariant.touring t told first)
          (rw (← (now.invariant.same ∙ told)) on.2) on.3;
      moved = same_on c.args.replica.now u v (g.D.Disk.told now.disk) (Checked on.0 on.1) now.invariant.moved on.2;
      same = c.in-GoesOn.ensures.same ∙ now.invariant.same;
      disk_faults = c.in-GoesOn.ensures.disk ∙ now.invariant.disk_faults;
      sink_faults = c.in-GoesOn.ensures.sink ∙ now.invariant.sink_faults;
    }

pub returns-in-Ends-clause-tours : goal.returns-in-Ends-clause-tours
returns-in-Ends-clause-tours g c = λ t told first. let now = c.loop-status in
    ends c.args.replica.now t now.replica c.check_next.new.replica (g.W.Sink.written c.args.sink.now)
    (g.W.Sink.written now.sink) (g.W.Sink.written c.check_next.new.sink) now.invariant.moved (now.invariant.touring t told first)
    c.in-Ends.status (rw (now.invariant.same ∙ told) at c.in-Ends.ensures.steps)

pub returns-in-Ends-clause-found : goal.returns-in-Ends-clause-found
returns-in-Ends-clause-found g c = λ t told first fault. let now = c.loop-status in
    found_told c.args.replica.now t now.replica c.check_next.new.replica (g.D.Disk.told now.disk) (g.W.Sink.written c.args.sink.now)
    (g.W.Sink.written now.sink) (g.W.Sink.written c.check_next.new.sink) (now.invariant.touring t told first)
    (rw fault at c.in-Ends.ensures.steps)

pub returns-in-Ends-clause-ends : goal.returns-in-Ends-clause-ends
returns-in-Ends-clause-ends g c = ends_so c.loop-status.replica c.check_next.new.replica (g.D.Disk.told c.loop-status.disk)
    (g.W.Sink.written c.loop-status.sink) (g.W.Sink.written c.check_next.new.sink) c.in-Ends.status c.in-Ends.ensures.steps
