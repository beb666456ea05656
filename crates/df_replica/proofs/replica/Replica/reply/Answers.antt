-- What isn't refused may be the next reply, and each call is the machine's.
use Rattle.{std.proofs.Common.{Err, refl, sym, ap, ◌∙◌}, df_opening.specs.Below.{State, memory}}
use Rattle.df_model.specs.{Commands.{Reply}, Faults.{is_reply_fault}, Refusals.{first_refusal, reply_refusals}}
use Rattle.df_replica.{specs.{Answering.{answer_of, as_reply}, Replying.{next_reply, reply_events}, Stopping.{stopped}}, proofs.{Owns.{all_own, part_own, refused_own}, ReplyAnswers.{fault_serves, refusal_serves, stored_serves}, ReplyTests.{may_reply}}}
use Rattle.df_replica.proofs.replica.Replica.reply.Goals as goal

pub reply_next-requires : goal.reply_next-requires
reply_next-requires g c = may_reply c.args.self.now c.args.op
    c.args.body.now c.why_no_reply.ensures.state c.requires.live (sym (c.why_no_reply.ensures.why c.args.body.now refl) ∙ c.in_default.is)

pub returns-in-Some-clause-call : goal.returns-in-Some-clause-call
returns-in-Some-clause-call g c = refusal_serves c.args.self.now c.args.op c.args.body.now c.why_no_reply.ensures.state
    c.requires.live c.in-Some.error (sym (c.in-Some.ensures.why c.args.body.now refl)) (g.D.Disk.told c.args.disk.now)

pub returns-in-Ok-clause-call : goal.returns-in-Ok-clause-call
returns-in-Ok-clause-call g c = stored_serves c.args.self.now c.args.op
    c.args.body.now c.why_no_reply.ensures.state c.requires.live (sym (c.why_no_reply.ensures.why c.args.body.now refl) ∙ c.in_default.is)
    c.reply_next.ensures.own c.reply_next.new.self c.in-Ok.check
    (g.D.Disk.told c.args.disk.now) (g.D.Disk.told c.reply_next.new.disk) c.in-Ok.ensures.check c.in-Ok.ensures.state c.in-Ok.ensures.events

pub returns-in-Err-clause-call : goal.returns-in-Err-clause-call
returns-in-Err-clause-call g c = fault_serves c.args.self.now c.args.op
    c.args.body.now c.why_no_reply.ensures.state c.requires.live (sym (c.why_no_reply.ensures.why c.args.body.now refl) ∙ c.in_default.is)
    c.reply_next.ensures.own c.stop.new.self (g.D.Disk.told c.args.disk.now)
    (g.D.Disk.told c.reply_next.new.disk) (ap (λ (s : State). s.live) c.stop.ensures) c.in-Err.ensures.events

pub returns-in-Err-clause-exact : goal.returns-in-Err-clause-exact
returns-in-Err-clause-exact g c = (sym (c.why_no_reply.ensures.why c.args.body.now refl) ∙ c.in_default.is, c.stop.ensures ∙ ap stopped c.in-Err.ensures.kept, c.in-Err.ensures.events)

pub returns-in-Some-clause-own : goal.returns-in-Some-clause-own
returns-in-Some-clause-own g c = let s = c.args.self.now in
    refused_own (Reply c.args.op c.args.body.now) s (g.D.Disk.told c.args.disk.now) (answer_of is_reply_fault as_reply (Err c.in-Some.error)) (reply_events s (next_reply s c.args.body.now)) (first_refusal (reply_refusals (memory s) c.args.op c.args.body.now))
    c.in-Some.error refl (sym (c.in-Some.ensures.why c.args.body.now refl))

pub returns-in-Ok-clause-own : goal.returns-in-Ok-clause-own
returns-in-Ok-clause-own g c = let s = c.args.self.now in
    all_own (reply_events s (next_reply s c.args.body.now)) (g.D.Disk.told c.args.disk.now)
    (g.D.Disk.told c.reply_next.new.disk) (first_refusal (reply_refusals (memory s) c.args.op c.args.body.now))
    (sym (c.why_no_reply.ensures.why c.args.body.now refl) ∙ c.in_default.is) c.in-Ok.ensures.events

pub returns-in-Err-clause-own : goal.returns-in-Err-clause-own
returns-in-Err-clause-own g c = let s = c.args.self.now in
    part_own (reply_events s (next_reply s c.args.body.now)) (g.D.Disk.told c.args.disk.now)
    (g.D.Disk.told c.reply_next.new.disk) (first_refusal (reply_refusals (memory s) c.args.op c.args.body.now))
    (sym (c.why_no_reply.ensures.why c.args.body.now refl) ∙ c.in_default.is) c.in-Err.ensures.events
