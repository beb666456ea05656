-- Each turn plans one slot, and the whole table is one of the layout, with the meaning that it has on an image that is found.
use Rattle.{std.proofs.Common.{◌≡◌, ◌++◌, List, ℕ, ap, sym, subst, ◌∙◌, append_assoc, arith}, df_layout.specs.declared.damage.Mend.{Mend}}
use Rattle.df_recovery.{specs.Plan.{ArePlanned, copy_mends, if_wanted, needs_header, shown_class, slot_mend, slot_mends}, proofs.{Plans.{planned_more, planned_table, size_kept, slot_mends_more}, Planned.{plan_tells, plan_whole}}}
use Rattle.df_recovery.proofs.planning.plan.Goals as goal

pub loop-slot-preserved : goal.loop-slot-preserved
loop-slot-preserved c = let now = c.loop-slot in let put = c.plan_slot.ensures in record {
  within = omega (arith, c.loop-slot-test.true);
  size = size_kept c.args.cluster c.args.found.now c.args.head now.slot now.headers c.plan_slot.new.headers put.header ∙ now.invariant.size;
  count = omega (arith, put.len, now.invariant.count);
  room = put.room ∙ now.invariant.room;
  planned = planned_more c.args.cluster c.args.found.now c.args.head now.slot
      now.headers c.plan_slot.new.headers (omega (arith, c.loop-slot-test.true, now.invariant.size)) now.invariant.planned put.header;
  list = λ image tells. let needs = needs_header c.args.layout.now c.args.found.now.start c.args.head image in
      let classes = shown_class c.args.found.now in put.list c.args.layout.now image tells
      ∙ ap (λ (xs : List Mend). xs ++ if_wanted (needs now.slot) (slot_mend classes now.slot)) (now.invariant.list image tells)
      ∙ append_assoc (copy_mends c.args.copies.now c.args.members.now)
      (slot_mends needs classes now.slot) (if_wanted (needs now.slot) (slot_mend classes now.slot))
      ∙ ap (λ (xs : List Mend). copy_mends c.args.copies.now c.args.members.now ++ xs) (sym (slot_mends_more needs classes now.slot));
}

pub returns-clause-table : goal.returns-clause-table
returns-clause-table c =
    let all : c.loop-slot.slot ≡ c.args.layout.now.slots = omega (arith, c.loop-slot.invariant.within, c.loop-slot-test.false) in
    planned_table c.args.layout.now c.args.cluster
    c.args.found.now c.args.head c.loop-slot.headers c.requires.named c.ranges.cluster.fits c.requires.slots c.loop-slot.invariant.size
    (rw all at c.loop-slot.invariant.planned)

pub returns-clause-each : goal.returns-clause-each
returns-clause-each c =
    let all : c.loop-slot.slot ≡ c.args.layout.now.slots = omega (arith, c.loop-slot.invariant.within, c.loop-slot-test.false) in
    subst (λ (k : ℕ). ArePlanned c.args.cluster c.args.found.now c.args.head k c.loop-slot.headers) all c.loop-slot.invariant.planned

pub returns-clause-tells : goal.returns-clause-tells
returns-clause-tells c = λ sh image v is.
    let all : c.loop-slot.slot ≡ c.args.layout.now.slots = omega (arith, c.loop-slot.invariant.within, c.loop-slot-test.false) in
    plan_tells c.args.layout.now sh image v
    c.args.found.now c.args.head is c.args.cluster c.loop-slot.headers c.loop-slot.invariant.size (rw all at c.loop-slot.invariant.planned)

pub returns-clause-whole : goal.returns-clause-whole
returns-clause-whole c = λ sh image v is distinct.
    let all : c.loop-slot.slot ≡ c.args.layout.now.slots = omega (arith, c.loop-slot.invariant.within, c.loop-slot-test.false) in
    plan_whole c.args.layout.now
    sh image v c.args.found.now c.args.head is c.args.cluster c.loop-slot.headers (rw all at c.loop-slot.invariant.planned) distinct
