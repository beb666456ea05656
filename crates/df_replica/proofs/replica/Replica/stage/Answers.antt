-- What isn't refused may be staged, and each call is the machine's.
use Rattle.{std.proofs.Common.{refl, sym, ◌∙◌}, df_replica.proofs.{StageAnswers.{refusal_serves, stage_serves}, StageTests.{may_stage}}}
use Rattle.df_replica.proofs.replica.Replica.stage.Goals as goal

pub stage_next-requires : goal.stage_next-requires
stage_next-requires c = may_stage c.args.self.now c.args.client c.args.request c.args.body.now c.stage_refusal.ensures.state
    c.stage_refusal.ensures.table c.ranges.client.fits (sym (c.stage_refusal.ensures.why c.args.body.now refl) ∙ c.in_default.is)

pub returns-in-Some-clause-call : goal.returns-in-Some-clause-call
returns-in-Some-clause-call c = λ told. refusal_serves c.args.self.now c.args.client c.args.request
    c.args.body.now c.requires.live c.ranges.client.fits c.in-Some.error (sym (c.in-Some.ensures.why c.args.body.now refl)) told

pub returns-clause-call : goal.returns-clause-call
returns-clause-call c = λ told.
    stage_serves c.args.self.now c.args.client
    c.args.request c.args.body.now c.requires.live c.ranges.client.fits (sym (c.stage_refusal.ensures.why c.args.body.now refl)
    ∙ c.in_default.is) c.stage_next.new.self c.stage_next.result c.stage_next.ensures.op c.stage_next.ensures.state told
