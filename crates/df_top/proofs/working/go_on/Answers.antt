-- The call that is asked for was made, and the run heard of its answer.
use Rattle.{std.proofs.Common.{◌≡◌, true, sym, Result}, df_session.specs.declared.hearing.Fault.{Fault}}
use Rattle.df_workload.{specs.declared.state.State.{State as Run}, proofs.Laws.{asks_some, may_go_on}}
use Rattle.df_top.{specs.Works.{Comes, IsRunning, Works}, proofs.Runs.{handed_on, made_fails, made_live, made_runs, made_works}}
use Rattle.df_top.proofs.working.go_on.Goals as goal

pub make_next-requires : goal.make_next-requires
make_next-requires g c = let next = asks_some c.args.run.now.generator.point c.args.run.now.generator c.requires.going in
    record { live = c.requires.ready.live; asks = λ none. cc (none, next.1) }

pub hear-requires : goal.hear-requires
hear-requires g c = may_go_on c.args.run.now.generator.point c.in_ok-outcome.outcome c.args.run.now.generator c.requires.going

pub returns : goal.returns
returns g c = let run = c.args.run.now.generator in let old = g.D.Disk.told c.args.disk.now in let s = c.args.run.now.replica in
    let new = g.D.Disk.told c.make_next.new.disk in let t = c.make_next.new.replica in
    let next = asks_some run.point run c.requires.going in let made = c.in_ok-outcome.ensures.makes next.0 next.1 in record {
      comes = rw (sym c.hear.ensures.heard) at (made_works run s t old new next.0 next.1 c.in_ok-outcome.outcome made);
      ready = record {
        live = made_live run s t old new next.0 next.1 c.in_ok-outcome.outcome made;
        runs = rw (sym c.hear.ensures.heard) at (made_runs
            run s t old new next.0 next.1 c.in_ok-outcome.outcome (c.in_ok-outcome.ensures.runs next.0 next.1) c.requires.ready.runs);
      };
      less = c.hear.ensures.less c.requires.going;
      disk = c.in_ok-outcome.ensures.disk;
    }

pub returns-in_err-outcome-clause-comes : goal.returns-in_err-outcome-clause-comes
returns-in_err-outcome-clause-comes g c = let run = c.args.run.now.generator in let next = asks_some run.point run c.requires.going in
    handed_on (λ (r : Result (Unit {0}) Fault). Comes run c.args.run.now.replica (g.D.Disk.told c.args.disk.now) run c.make_next.new.replica
    (g.D.Disk.told c.make_next.new.disk) r) c.from_residual.result c.in_err-outcome.field-0.0 c.from_residual.ensures
    (made_fails run c.args.run.now.replica c.make_next.new.replica (g.D.Disk.told c.args.disk.now)
    (g.D.Disk.told c.make_next.new.disk) next.0 next.1 (Unit {0}) c.in_err-outcome.field-0.0 (c.in_err-outcome.ensures.makes next.0 next.1))
