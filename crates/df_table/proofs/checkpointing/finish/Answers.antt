-- Each turn takes one step more.
use Rattle.{std.proofs.Common.{◌+◌, ◌∙◌, ℕ, Bool, refl}, df_base.specs.Causes.{Blamed}}
use Rattle.df_table.{specs.{Calls.{CheckpointStepped}, Statuses.{is_disk}}, proofs.{Joined.{make_none}, Steps.{fewer, one_step_ends, one_step_more, still_runs, under_done, under_more, under_start}}}
use Rattle.df_table.proofs.checkpointing.finish.Goals as goal

pub loop-done-init : goal.loop-done-init
loop-done-init g c = record {
  makes = (0, make_none c.args.replica.now (g.D.Disk.told c.args.disk.now));
  live = c.requires.live;
  runs = c.requires.runs;
  under = λ r is. under_start r c.args.replica.now is;
  disk_faults = refl;
}

pub loop-done-smaller : goal.loop-done-smaller
loop-done-smaller g c = let now = c.loop-done in fewer now.replica c.step.new.replica (rw c.if-done.false at c.in-Ok.ensures.state)

pub loop-done-preserved : goal.loop-done-preserved
loop-done-preserved g c = let now = c.loop-done in record {
  makes = (now.invariant.makes.0 + 1, one_step_more now.invariant.makes.0 c.args.replica.now now.replica c.step.new.replica (g.D.Disk.told c.args.disk.now) (g.D.Disk.told now.disk) (g.D.Disk.told c.step.new.disk) now.invariant.makes.1 c.in-Ok.ensures.makes);
  live = c.in-Ok.ensures.live;
  runs = still_runs now.replica c.step.new.replica (rw c.if-done.false at c.in-Ok.ensures.state);
  under = λ r is. under_more
      r c.args.replica.now now.replica c.step.new.replica (now.invariant.under r is) (rw c.if-done.false at c.in-Ok.ensures.state);
  disk_faults = c.in-Ok.ensures.disk ∙ now.invariant.disk_faults;
}

pub returns-then-done-clause-makes : goal.returns-then-done-clause-makes
returns-then-done-clause-makes g c = let now = c.loop-done in
    (now.invariant.makes.0 + 1, one_step_more now.invariant.makes.0 c.args.replica.now now.replica c.step.new.replica (g.D.Disk.told c.args.disk.now) (g.D.Disk.told now.disk) (g.D.Disk.told c.step.new.disk) now.invariant.makes.1 c.in-Ok.ensures.makes)

pub returns-then-done-clause-finished : goal.returns-then-done-clause-finished
returns-then-done-clause-finished g c = λ r is. under_done r c.args.replica.now
    c.loop-done.replica c.step.new.replica (c.loop-done.invariant.under r is) (rw c.if-done.true at c.in-Ok.ensures.state)

pub returns-in-Err-clause-makes : goal.returns-in-Err-clause-makes
returns-in-Err-clause-makes g c = let now = c.loop-done in
    (now.invariant.makes.0 + 1, one_step_ends now.invariant.makes.0 c.args.replica.now now.replica c.step.new.replica (g.D.Disk.told c.args.disk.now) (g.D.Disk.told now.disk) (g.D.Disk.told c.step.new.disk) c.in-Err.ending now.invariant.makes.1 c.in-Err.ensures.makes)

pub returns-in-Err-clause-disk : goal.returns-in-Err-clause-disk
returns-in-Err-clause-disk g c = rw c.loop-done.invariant.disk_faults at c.in-Err.ensures.disk
