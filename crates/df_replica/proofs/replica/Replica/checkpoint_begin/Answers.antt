-- Each begin is the machine's.
use Rattle.df_replica.proofs.BeginAnswers.{begun_serves, refusal_serves}
use Rattle.df_replica.proofs.replica.Replica.checkpoint_begin.Goals as goal

pub returns-in-Ok-clause-call : goal.returns-in-Ok-clause-call
returns-in-Ok-clause-call c = begun_serves c.args.self.now c.args.root.now c.test_begin.ensures.bytes c.requires.live
    c.in-Ok.ensures.tested.0 c.capture.new.self c.in-Ok.plan.blocks c.in-Ok.ensures.tested.1.planned.blocks c.capture.ensures

pub returns-in-Err-clause-call : goal.returns-in-Err-clause-call
returns-in-Err-clause-call c =
    refusal_serves c.args.self.now c.args.root.now c.test_begin.ensures.bytes c.requires.live c.in-Err.error c.in-Err.ensures.tested
