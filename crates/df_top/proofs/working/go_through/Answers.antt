-- Each turn goes on with one command more, or ends the run.
use Rattle.{std.proofs.Common.{◌∙◌, refl, Err, Result}, df_session.specs.declared.hearing.Fault.{Fault}}
use Rattle.df_top.{specs.Works.{Comes}, proofs.Runs.{comes_more, handed_on, works_more, works_none}}
use Rattle.df_top.proofs.working.go_through.Goals as goal

pub loop-disk-init : goal.loop-disk-init
loop-disk-init g c = record {
  works = works_none c.args.run.now.generator c.args.run.now.replica (g.D.Disk.told c.args.disk.now);
  ready = c.requires.ready;
  disk_faults = refl;
}

pub loop-disk-preserved : goal.loop-disk-preserved
loop-disk-preserved g c = let now = c.loop-disk in record {
  works =
      works_more c.args.run.now.generator
      c.args.run.now.replica (g.D.Disk.told c.args.disk.now) now.run.generator now.run.replica (g.D.Disk.told now.disk)
      c.go_on.new.run.generator c.go_on.new.run.replica (g.D.Disk.told c.go_on.new.disk) now.invariant.works c.in_ok-go_on.ensures.comes;
  ready = c.in_ok-go_on.ensures.ready;
  disk_faults = c.in_ok-go_on.ensures.disk ∙ now.invariant.disk_faults;
}

pub returns-in_err-go_on-clause-comes : goal.returns-in_err-go_on-clause-comes
returns-in_err-go_on-clause-comes g c = let now = c.loop-disk in
    handed_on (λ (r : Result (Unit {0}) Fault).
    Comes c.args.run.now.generator c.args.run.now.replica (g.D.Disk.told c.args.disk.now) c.go_on.new.run.generator
    c.go_on.new.run.replica (g.D.Disk.told c.go_on.new.disk) r) c.from_residual.result c.in_err-go_on.field-0.0 c.from_residual.ensures
    (comes_more c.args.run.now.generator c.args.run.now.replica (g.D.Disk.told c.args.disk.now)
    now.run.generator now.run.replica (g.D.Disk.told now.disk) c.go_on.new.run.generator c.go_on.new.run.replica
    (g.D.Disk.told c.go_on.new.disk) now.invariant.works {T = Unit {0}} (Err c.in_err-go_on.field-0.0) c.in_err-go_on.ensures.comes)
