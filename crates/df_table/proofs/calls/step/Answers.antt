-- The step was taken, or the call has no answer.
use Rattle.{std.proofs.Common.{subst, sym}, df_table.proofs.Called.{Stepped, step_takes}}
use Rattle.df_table.proofs.calls.step.Goals as goal

pub returns : goal.returns
returns g c = let s = c.args.replica.now in let t = c.checkpoint_step.new.self in let old = g.D.Disk.told c.args.disk.now in
    let new = g.D.Disk.told c.checkpoint_step.new.disk in let is = c.checkpoint_step.ensures in let steps =
    subst (Stepped s t old new (g.D.Disk.faults c.args.disk.now) (g.D.Disk.faults c.checkpoint_step.new.disk)) (sym c.stepped.ensures)
    (step_takes s t old new (g.D.Disk.faults c.args.disk.now) (g.D.Disk.faults c.checkpoint_step.new.disk) c.requires.runs
    c.checkpoint_step.result is.exact is.call is.own is.cause) in
    record { makes = steps.comes; state = steps.state; live = steps.live; ends = steps.ends; disk = steps.disk }
