-- Each turn mends the prepare that is named, and goes on to the one that it names.
use Rattle.{std.proofs.Common.{◌≡◌, ◌∙◌, ◌<◌, ◌≤◌, ap, arith, refl, subst, sym}, df_buffers.specs.declared.identity.Identity.{Identity}}
use Rattle.df_format.specs.{declared.superblock.SuperFields.{SuperFields}, declared.kind.Kind.TheVariants.{Prepare}}
use Rattle.{df_layout.specs.{declared.places.Zone.TheVariants.{WalPrepares}, Spans.{HasPlace}}, df_units.specs.Meaning.{number_of}}
use Rattle.df_mirror.{specs.Walks.{NamesPreparesFrom, superblock_units}, proofs.{Loaded.{held_some}, Named.{names_all, names_head, prepare_failed, prepare_for, prepare_mended}, Turns.{begins, comes_to, goes_on, stops}}}
use Rattle.df_mirror.proofs.mending.mend_prepares.Goals as goal

pub loop-op-init : goal.loop-op-init
loop-op-init g c = let b = c.args.base.now in let fields = sym c.fields-fields.ensures.value in record {
  low = rw fields at c.fields-fields.ensures.usable.rules.head.0;
  high = omega arith;
  walked = begins c.requires.layout (λ x t is. rw (← fields) (names_head b (superblock_units b t.shown) is));
}

pub mend_unit-requires-clause-layout : goal.mend_unit-requires-clause-layout
mend_unit-requires-clause-layout g c =
    ap (λ (i : Identity). i.layout) c.known-prepare.ensures.known ∙ sym c.loop-op.invariant.walked.room_is

pub mend_unit-requires-clause-place : goal.mend_unit-requires-clause-place
mend_unit-requires-clause-place g c =
    subst (λ (i : Identity). HasPlace i.layout i.place × (i.place.zone ≡ WalPrepares)) (sym c.known-prepare.ensures.known)
    (omega (arith, c.from.ensures, c.slot_of.ensures.below), refl)

pub overflow_add-mended : goal.overflow_add-mended
overflow_add-mended g c = omega (arith, c.loop-op.invariant.walked.few, c.in-Ok.ensures.unit.2, ap (λ (f : SuperFields). f.head) c.fields-fields.ensures.value, c.fields-fields.ensures.usable.rules.head)

pub returns-in-Err-clause-mends : goal.returns-in-Err-clause-mends
returns-in-Err-clause-mends g c = λ t o tell grid. let now = c.loop-op in
    let above : c.args.base.now.content.op < now.op = omega (arith, ap (λ (f : SuperFields). f.op) c.fields-fields.ensures.value) in
    stops now.invariant.walked c.in-Err.ending (λ refusal. absurd (c.in-Err.ensures.unrefused refusal))
    (λ x m also on from. prepare_failed c.args.base.now c.fields-fields.ensures.usable now.op now.named above c.known-prepare.result
    (prepare_for c.args.base.now now.op c.from.result now.named c.known-prepare.result (c.from.ensures ∙ c.slot_of.ensures.value)
    c.known-prepare.ensures.known c.known-prepare.ensures.check) m also _ _ on from
    c.in-Err.ending c.in-Err.ensures.mends) tt t o tell grid _

pub loop-op-preserved : goal.loop-op-preserved
loop-op-preserved g c = let now = c.loop-op in let did = c.in-Ok.ensures in
    let above : c.args.base.now.content.op < now.op = omega (arith, ap (λ (f : SuperFields). f.op) c.fields-fields.ensures.value) in
    record {
      low = omega arith;
      high = omega (arith, now.invariant.high);
      walked = goes_on now.invariant.walked did.same did.blamed
          (did.unit.0 ∙ now.invariant.walked.room_is) (omega (arith, now.invariant.walked.few, now.invariant.high, did.unit.2))
          (λ x m o on from. prepare_mended c.args.base.now c.fields-fields.ensures.usable now.op now.named above c.known-prepare.result
          (prepare_for c.args.base.now now.op c.from.result now.named c.known-prepare.result (c.from.ensures ∙ c.slot_of.ensures.value)
          c.known-prepare.ensures.known c.known-prepare.ensures.check) m o _ _ on from c.unit.result.now
          c.mend_unit.new.shelf.held c.unit.ensures c.in-Ok.more did.mends did.shown c.header.result.now c.header.ensures.header);
    }

pub returns-clause-mends : goal.returns-clause-mends
returns-clause-mends g c = λ t o tell grid. let now = c.loop-op in
    comes_to now.invariant.walked (λ x image from. names_all c.args.base.now image now.op (number_of now.named)
    from (omega (arith, now.invariant.low, ap (λ (f : SuperFields). f.op) c.fields-fields.ensures.value))) tt t o tell grid

pub returns-clause-back : goal.returns-clause-back
returns-clause-back g c = let i = c.loop-op.invariant in
    (i.walked.room_is, omega (arith, i.walked.few, i.low, ap (λ (f : SuperFields). f.op) c.fields-fields.ensures.value, ap (λ (f : SuperFields). f.head) c.fields-fields.ensures.value, c.fields-fields.ensures.usable.rules.head, c.args.base.now.fields.slots))

pub unit-requires : goal.unit-requires
unit-requires g c = held_some Prepare c.known-prepare.result c.mend_unit.new.shelf.held c.in-Ok.ensures.unit.1
