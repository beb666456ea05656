-- Each turn puts one slot into the table.
use Rattle.{std.proofs.{Common.{ℕ, Option, length, sym, ◌∙◌, ap, subst, arith}, lemmas.List.{length-set}}, df_disk.specs.Told.{Told}}
use Rattle.df_buffers.specs.declared.slots.SlotSeen.{SlotSeen}
use Rattle.df_journal.{specs.{Scan.{Scan}, Scanned.{AreSeen, HoldsSector, IsSlotSeen}, declared.table.Start.{Start}}, proofs.Scans.{held_still, seen_all, seen_more}}
use Rattle.df_journal.proofs.reads.scan_shelf.Goals as goal

pub loop-slot-preserved : goal.loop-slot-preserved
loop-slot-preserved g c = let seen : SlotSeen = c.in_ok-seen.seen in let told = g.D.Disk.told c.args.disk.now in
    let layout = c.args.layout.now in let put = c.set.ensures in let before = c.hold_sector.ensures.same ∙ c.loop-slot.invariant.same in
    let holds : HoldsSector layout told c.loop-slot.slot c.hold_sector.new.sector.bytes =
    rw c.loop-slot.invariant.same at c.in_ok-hold_sector.ensures.holds in record {
      within = omega (arith, c.loop-slot-test.true);
      size = ap (λ (scan : Scan). length scan.slots) put ∙ length-set c.loop-slot.found.slots c.loop-slot.slot seen ∙ c.loop-slot.invariant.size;
      start = ap (λ (scan : Scan). scan.start) put ∙ c.loop-slot.invariant.start;
      shelf = c.scan_slot.ensures.shelf;
      sector = c.hold_sector.ensures.sector ∙ c.loop-slot.invariant.sector;
      same = c.scan_slot.ensures.same ∙ before;
      faults = c.in_ok-seen.ensures.cause.same ∙ c.in_ok-hold_sector.ensures.cause.same ∙ c.loop-slot.invariant.faults;
      held = λ some. held_still layout c.loop-slot.slot told c.hold_sector.new.sector.bytes some holds;
      seen = seen_more layout c.args.start.now.cluster told c.loop-slot.slot c.loop-slot.found.slots c.set.new.self.slots seen
          (omega (arith, c.loop-slot.invariant.size, c.loop-slot-test.true)) (ap (λ (scan : Scan). scan.slots) put)
          (subst (λ (t : Option Told). IsSlotSeen layout c.args.start.now.cluster t c.loop-slot.slot seen)
          before c.in_ok-seen.ensures.seen) c.in_ok-seen.ensures.valid c.loop-slot.invariant.seen;
    }

pub returns-clause-scanned : goal.returns-clause-scanned
returns-clause-scanned g c = seen_all c.args.layout.now
    (g.D.Disk.told c.args.disk.now) c.loop-slot.slot c.loop-slot.found c.loop-slot.invariant.size (omega (arith, c.loop-slot-test.false))
    (rw (sym (ap (λ (s : Start). s.cluster) c.loop-slot.invariant.start)) at c.loop-slot.invariant.seen)
