-- Each turn mends the reply at the next place, if it is known.
use Rattle.std.proofs.Common.{ℕ, arith, subst}
use Rattle.df_mirror.{specs.Walks.{ShowsKnownReplies, superblock_units}, proofs.{AtHead.{all_replies, none_yet}, Turns.{begins, comes_to, goes_on, stops}}}
use Rattle.df_mirror.proofs.replies.mend_replies.Goals as goal

pub loop-place-init : goal.loop-place-init
loop-place-init g c = begins c.requires.layout (λ x t head.
    none_yet c.args.base.now (superblock_units c.args.base.now t.shown) c.args.slots.now c.args.sessions.now head)

pub mend_reply-requires-clause-place : goal.mend_reply-requires-clause-place
mend_reply-requires-clause-place g c =
    (omega (arith, c.loop-place-test, c.len-place-end.ensures.value), omega (arith, c.loop-place-test, c.len-place-end.ensures.value, c.len-place-end.ensures.table.within, c.requires.places))

pub returns-in-Err-clause-mends : goal.returns-in-Err-clause-mends
returns-in-Err-clause-mends g c = λ t o tell head. stops c.loop-place.invariant c.in-Err.ending (λ refusal.
    absurd (c.in-Err.ensures.unrefused refusal)) (λ x. c.in-Err.ensures.mends) tt t o tell head _

pub loop-place-preserved : goal.loop-place-preserved
loop-place-preserved g c = let did = c.in-Ok.ensures in
    goes_on c.loop-place.invariant did.same did.blamed did.back.0 (omega (arith, c.loop-place.invariant.few, did.back.1)) (λ x. did.mends)

pub returns-clause-mends : goal.returns-clause-mends
returns-clause-mends g c = let b = c.args.base.now in let slots = c.args.slots.now in let table = c.args.sessions.now in
    comes_to c.loop-place.invariant (λ x image shows. all_replies b image slots table (subst (λ (n : ℕ).
    ShowsKnownReplies b image slots table n) (omega (arith, c.loop-place-test, c.loop-place.auto, c.len-place-end.ensures.value)) shows)) tt

pub returns-clause-few : goal.returns-clause-few
returns-clause-few g c = omega (arith, c.loop-place.invariant.few, c.loop-place.auto, c.len-place-end.ensures.value, c.len-place-end.ensures.table.within, c.len-place-end.ensures.table.most)
