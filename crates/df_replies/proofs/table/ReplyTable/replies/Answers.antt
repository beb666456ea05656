-- One more reply, and the greatest of the numbers is the theory's number of replies.
use Rattle.std.{proofs.Common.{◌≡◌, ◌∙◌, ap, arith, List, length, max, subst, ℕ}, specs.Prelude.{Result}}
use Rattle.{df_layout.specs.declared.damage.Class.{Class}, df_format.specs.declared.header.Header.{Header}}
use Rattle.df_replies.{specs.Counts.{IsGreatest}, proofs.Counted.{greatest_is_replies, greatest_more}}
use Rattle.df_replies.proofs.table.ReplyTable.replies.Goals as goal

pub loop-reply-preserved : goal.loop-reply-preserved
loop-reply-preserved c = greatest_more c.args.boot (max c.args.superblock c.args.mark)
    c.deref-reply-items.result.now c.loop-reply.reply-index c.loop-reply.top c.max-top-in-loop-reply.result _ c.loop-reply-test.true
    (c.max-top-in-loop-reply.ensures ∙ ap (max c.loop-reply.top) c.op_in.ensures) c.loop-reply.invariant

pub returns : goal.returns
returns c = λ image content tail shows own replies mark. let items = c.deref-reply-items.result.now in
    let all : c.loop-reply.reply-index ≡ length items = omega (arith, c.loop-reply-test.false, c.loop-reply.auto.reply-index-end) in
    let start = max c.args.superblock c.args.mark in
    greatest_is_replies c.args.boot c.args.superblock c.args.mark c.loop-reply.top c.args.self.now image content tail
    (subst (λ (l : List (Result Header Class)). IsGreatest c.args.boot start l (length l) c.loop-reply.top)
    (c.deref-reply-items.ensures.value ∙ c.self.view_is)
    (subst (λ (n : ℕ). IsGreatest c.args.boot start items n c.loop-reply.top) all c.loop-reply.invariant)) shows own replies mark
