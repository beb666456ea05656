-- Where no checkpoint runs, the step is the machine's too, and in each case it adds its own device calls.
use Rattle.std.proofs.Common.{ap, refl, sym, Err, Some}
use Rattle.df_model.specs.{Commands.{Advance, ToAdvance}, declared.errors.StepError.TheVariants.{NotRunning}}
use Rattle.df_replica.{specs.Own.{running_events}, proofs.{Owns.{adds_none, step_own}, StepAnswers.{idle_call, none_pending}}}
use Rattle.df_replica.proofs.replica.Replica.checkpoint_step.Goals as goal

pub returns-in-None-clause-call : goal.returns-in-None-clause-call
returns-in-None-clause-call g c = λ given supplied. let s = c.args.self.now in idle_call s given
    c.requires.live (none_pending s.running s.blocks.left (sym c.in-None.ensures.pending)) supplied (g.D.Disk.told c.args.disk.now) supplied

pub returns-in-None-clause-own : goal.returns-in-None-clause-own
returns-in-None-clause-own g c = let s = c.args.self.now in let told = g.D.Disk.told c.args.disk.now in adds_none Advance s told told
    (Some (ToAdvance (Err NotRunning))) (ap (running_events s) (none_pending s.running s.blocks.left (sym c.in-None.ensures.pending))) refl

pub returns-in-Some-eq0-clause-own : goal.returns-in-Some-eq0-clause-own
returns-in-Some-eq0-clause-own g c = step_own c.args.self.now
    (g.D.Disk.told c.args.disk.now) (g.D.Disk.told c.last_step.new.disk) c.last_step.new.self c.last_step.result c.last_step.ensures.exact

pub returns-in-Some-clause-own : goal.returns-in-Some-clause-own
returns-in-Some-clause-own g c = step_own c.args.self.now (g.D.Disk.told c.args.disk.now)
    (g.D.Disk.told c.trailer_step.new.disk) c.trailer_step.new.self c.trailer_step.result c.trailer_step.ensures.exact
