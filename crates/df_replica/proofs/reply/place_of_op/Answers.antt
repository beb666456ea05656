-- The first session with the op, or the end of the table.
use Rattle.{std.proofs.Common.{◌≡◌, ◌∙◌, ℕ, length, subst, arith}, df_replica.proofs.ReplyTests.{LackBefore, first_place, no_place}}
use Rattle.df_replica.proofs.reply.place_of_op.Goals as goal

pub returns-then-session-op-clause-place : goal.returns-then-session-op-clause-place
returns-then-session-op-clause-place c = first_place c.args.op c.args.table.now.sessions
    c.loop-place.place c.session_in-session.result c.session_in-session.ensures c.if-session-op.true c.loop-place.invariant.lack

pub returns-clause-place : goal.returns-clause-place
returns-clause-place c = let at : c.loop-place.place ≡ length c.args.table.now.sessions =
    omega (arith, c.loop-place.invariant.within, c.loop-place-test.false, c.len-count.ensures.value) in c.len-count.ensures.value ∙ no_place
    c.args.op c.args.table.now.sessions (subst (λ (k : ℕ). LackBefore c.args.op c.args.table.now.sessions k) at c.loop-place.invariant.lack)
