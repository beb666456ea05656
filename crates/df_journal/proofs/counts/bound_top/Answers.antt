-- One more slot.
use Rattle.std.proofs.Common.{◌≡◌, ◌∙◌, ap, max, sym, length, subst, arith}
use Rattle.df_journal.{specs.{Counts.{binding_op, in_boot}, Scan.{Scan}, Shows.{ShowsTable}}, proofs.Counted.{IsTopOf, bound_count, bound_turn}}
use Rattle.df_journal.proofs.counts.bound_top.Goals as goal

pub loop-slot-preserved : goal.loop-slot-preserved
loop-slot-preserved c = bound_turn c.args.boot c.args.top c.deref-slot-items.result.now c.loop-slot.slot-index c.loop-slot.greatest
    c.max.result c.max-greatest.result _ _ c.loop-slot-test.true
    (c.max.ensures ∙ ap (max c.loop-slot.greatest) c.own_op.ensures) (c.max-greatest.ensures ∙ ap (max c.max.result) c.bound_op.ensures)
    c.loop-slot.invariant

pub returns : goal.returns
returns c = λ image shows. let items = c.deref-slot-items.result.now in
    let same : items ≡ c.args.found.now.slots = c.deref-slot-items.ensures.value ∙ ap (λ (scan : Scan). scan.slots) c.found.view_is in
    let all : c.loop-slot.slot-index ≡ length items = omega (arith, c.loop-slot-test.false, c.loop-slot.auto.slot-index-end) in bound_count
    c.args.boot c.args.top items c.loop-slot.greatest image (rw all at c.loop-slot.invariant) (subst (ShowsTable image) (sym same) shows)
