-- One more slot is counted.
use Rattle.{std.proofs.Common.{◌≡◌, ◌∙◌, ap, sym, length, subst, arith}, df_stamps.specs.declared.counters.Counters.{Counters}}
use Rattle.df_journal.{specs.{Scan.{Scan}, Shows.{ShowsTable}}, proofs.Counted.{CountsSlots, slot_turn, slots_count}}
use Rattle.df_journal.proofs.counts.count_rings.Goals as goal

pub loop-slot-preserved : goal.loop-slot-preserved
loop-slot-preserved c = (
  slot_turn c.deref-slot-items.result.now c.loop-slot.slot-index c.loop-slot.seen
      c.with_unit.result c.with_unit-seen.result _ _ c.loop-slot-test.true c.with_unit.ensures c.with_unit-seen.ensures c.loop-slot.invariant.0,
  ap (λ (x : Counters). x.reply_top) c.with_unit-seen.ensures ∙ ap (λ (x : Counters). x.reply_top) c.with_unit.ensures ∙ c.loop-slot.invariant.1,
)

pub returns-clause-rings : goal.returns-clause-rings
returns-clause-rings c = λ image shows. let items = c.deref-slot-items.result.now in
    let same : items ≡ c.args.found.now.slots = c.deref-slot-items.ensures.value ∙ ap (λ (scan : Scan). scan.slots) c.found.view_is in
    let all : c.loop-slot.slot-index ≡ length items = omega (arith, c.loop-slot-test.false, c.loop-slot.auto.slot-index-end) in
    slots_count items c.loop-slot.seen image (rw all at c.loop-slot.invariant.0) (subst (ShowsTable image) (sym same) shows)
