-- The step was taken, and the run heard of its answer.
use Rattle.{std.proofs.Common.{◌≡◌, ◌<◌, true, refl, sym, Result}, df_model.specs.Commands.{Advance}}
use Rattle.df_session.specs.declared.hearing.Fault.{Fault}
use Rattle.df_workload.{specs.{declared.state.State.{State as Run}, declared.state.Point.TheVariants.{Ending}}, proofs.Laws.{ends_by_step, may_end, still_ending}}
use Rattle.df_top.{specs.Works.{Comes, IsRunning, Works, steps_left}, proofs.Runs.{fewer_steps, handed_on, made_fails, made_live, made_runs, made_works, not_refused}}
use Rattle.df_top.proofs.working.end_step.Goals as goal

pub hear-requires : goal.hear-requires
hear-requires g c = may_end c.in_ok-outcome.outcome c.args.run.now.generator c.requires.ending c.requires.running
    (not_refused c.args.run.now.replica
    c.make_call.new.replica c.in_ok-outcome.outcome (c.in_ok-outcome.ensures.steps refl) (c.requires.ready.runs c.requires.running))

pub returns : goal.returns
returns g c = let run = c.args.run.now.generator in let old = g.D.Disk.told c.args.disk.now in
    let new = g.D.Disk.told c.make_call.new.disk in let s = c.args.run.now.replica in let t = c.make_call.new.replica in
    let o = c.in_ok-outcome.outcome in let next = ends_by_step run c.requires.ending c.requires.running in
    let made = c.in_ok-outcome.ensures.makes in let runs = c.requires.ready.runs c.requires.running in record {
      comes = rw (sym c.hear.ensures.heard) at (made_works run s t old new Advance next o made);
      ending = rw (sym c.hear.ensures.heard) at (still_ending o run c.requires.ending);
      less = rw (sym c.hear.ensures.heard) at (fewer_steps o run s t next (c.in_ok-outcome.ensures.steps refl) runs c.requires.running);
      ready = record {
        live = made_live run s t old new Advance next o made;
        runs = rw (sym c.hear.ensures.heard) at (made_runs run s t old new Advance next o c.in_ok-outcome.ensures.runs c.requires.ready.runs);
      };
      disk = c.in_ok-outcome.ensures.disk;
    }

pub returns-in_err-outcome-clause-comes : goal.returns-in_err-outcome-clause-comes
returns-in_err-outcome-clause-comes g c = let run = c.args.run.now.generator in
    handed_on (λ (r : Result (Unit {0}) Fault). Comes run c.args.run.now.replica (g.D.Disk.told c.args.disk.now) run c.make_call.new.replica
    (g.D.Disk.told c.make_call.new.disk) r) c.from_residual.result c.in_err-outcome.field-0.0 c.from_residual.ensures
    (made_fails run c.args.run.now.replica c.make_call.new.replica (g.D.Disk.told c.args.disk.now) (g.D.Disk.told c.make_call.new.disk)
    Advance (ends_by_step run c.requires.ending c.requires.running) (Unit {0}) c.in_err-outcome.field-0.0 c.in_err-outcome.ensures.makes)
