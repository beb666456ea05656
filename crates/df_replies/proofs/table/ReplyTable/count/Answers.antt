-- One more reply is counted, and what is counted of the table is what the image shows.
use Rattle.std.{proofs.Common.{◌≡◌, ◌∙◌, ℕ, List, length, subst, arith}, specs.Prelude.{Result}}
use Rattle.{df_layout.specs.declared.damage.Class.{Class}, df_format.specs.declared.header.Header.{Header}}
use Rattle.df_stamps.specs.declared.counters.Counters.{Counters}
use Rattle.df_replies.{specs.Counts.{CountsSome}, proofs.Counted.{counts_boot, counts_checkpoint, counts_more, counts_top}}
use Rattle.df_replies.proofs.table.ReplyTable.count.Goals as goal

-- all of them are counted
all_counted : (boot : ℕ) (start seen : Counters) (items replies : List (Result Header Class)) (k : ℕ) → items ≡ replies → k ≡ length items
    → CountsSome boot start items k seen → CountsSome boot start replies (length replies) seen
all_counted boot start seen items replies k same all is =
    subst (λ (l : List (Result Header Class)). CountsSome boot start l (length l) seen) same
    (subst (λ (n : ℕ). CountsSome boot start items n seen) all is)

pub loop-reply-preserved : goal.loop-reply-preserved
loop-reply-preserved c = counts_more c.args.boot c.args.rings.now c.deref-reply-items.result.now c.loop-reply.reply-index c.loop-reply.seen
    c.with_reply-seen.result _ c.loop-reply-test.true c.with_reply-seen.ensures c.loop-reply.invariant

pub returns-clause-rings : goal.returns-clause-rings
returns-clause-rings c = c.loop-reply.invariant.ring_op

pub returns-clause-checkpoint : goal.returns-clause-checkpoint
returns-clause-checkpoint c = λ image n shows. counts_checkpoint c.args.boot c.args.rings.now c.loop-reply.seen c.args.self.now
    (all_counted c.args.boot c.args.rings.now c.loop-reply.seen c.deref-reply-items.result.now c.args.self.now c.loop-reply.reply-index
    (c.deref-reply-items.ensures.value ∙ c.self.view_is)
    (omega (arith, c.loop-reply-test.false, c.loop-reply.auto.reply-index-end)) c.loop-reply.invariant) image n shows

pub returns-clause-boot : goal.returns-clause-boot
returns-clause-boot c = λ image n shows. counts_boot c.args.boot c.args.rings.now c.loop-reply.seen c.args.self.now
    (all_counted c.args.boot c.args.rings.now c.loop-reply.seen c.deref-reply-items.result.now c.args.self.now c.loop-reply.reply-index
    (c.deref-reply-items.ensures.value ∙ c.self.view_is)
    (omega (arith, c.loop-reply-test.false, c.loop-reply.auto.reply-index-end)) c.loop-reply.invariant) image n shows

pub returns-clause-top : goal.returns-clause-top
returns-clause-top c = λ image n shows. counts_top c.args.boot c.args.rings.now c.loop-reply.seen c.args.self.now
    (all_counted c.args.boot c.args.rings.now c.loop-reply.seen c.deref-reply-items.result.now c.args.self.now c.loop-reply.reply-index
    (c.deref-reply-items.ensures.value ∙ c.self.view_is)
    (omega (arith, c.loop-reply-test.false, c.loop-reply.auto.reply-index-end)) c.loop-reply.invariant) image n shows
