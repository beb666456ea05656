-- Each turn goes on with one command more, or ends the run.
use Rattle.{std.proofs.Common.{◌∙◌, refl, Err, Result}, df_session.specs.declared.hearing.Fault.{Fault}}
use Rattle.df_top.{specs.Works.{Comes}, proofs.Runs.{comes_more, handed_on, works_more, works_none}}
use Rattle.df_top.proofs.working.end_checkpoint.Goals as goal

pub loop-disk-init : goal.loop-disk-init
loop-disk-init g c = record {
  disk_faults = refl;
  works = works_none c.args.run.now.generator c.args.run.now.replica (g.D.Disk.told c.args.disk.now);
  ready = c.requires.ready;
  ending = c.requires.ending;
}

pub loop-disk-preserved : goal.loop-disk-preserved
loop-disk-preserved g c = let now = c.loop-disk in record {
  disk_faults = c.in_ok-end_step.ensures.disk ∙ now.invariant.disk_faults;
  works =
      works_more c.args.run.now.generator c.args.run.now.replica
      (g.D.Disk.told c.args.disk.now) now.run.generator now.run.replica (g.D.Disk.told now.disk) c.end_step.new.run.generator
      c.end_step.new.run.replica (g.D.Disk.told c.end_step.new.disk) now.invariant.works c.in_ok-end_step.ensures.comes;
  ready = c.in_ok-end_step.ensures.ready;
  ending = c.in_ok-end_step.ensures.ending;
}

pub returns-in_err-end_step-clause-comes : goal.returns-in_err-end_step-clause-comes
returns-in_err-end_step-clause-comes g c = let now = c.loop-disk in
    handed_on (λ (r : Result (Unit {0}) Fault). Comes c.args.run.now.generator c.args.run.now.replica
    (g.D.Disk.told c.args.disk.now) c.end_step.new.run.generator c.end_step.new.run.replica (g.D.Disk.told c.end_step.new.disk) r)
    c.from_residual.result c.in_err-end_step.field-0.0 c.from_residual.ensures
    (comes_more c.args.run.now.generator c.args.run.now.replica (g.D.Disk.told c.args.disk.now) now.run.generator
    now.run.replica (g.D.Disk.told now.disk) c.end_step.new.run.generator c.end_step.new.run.replica (g.D.Disk.told c.end_step.new.disk)
    now.invariant.works {T = Unit {0}} (Err c.in_err-end_step.field-0.0) c.in_err-end_step.ensures.comes)
