-- Each turn notes the prepare of one op more.
use Rattle.{std.proofs.Common.{◌≡◌, ◌-◌, ◌∙◌, ◌≤◌, IsSome, Option, ℕ, ap, arith, refl, sym}, df_units.specs.Meaning.{header_of}}
use Rattle.df_format.specs.declared.superblock.SuperFields.{SuperFields}
use Rattle.df_mirror.proofs.{HeadSessions.{HasNoted, none_if, none_next, noted_all, noted_known, noted_last, noted_next, noted_no, noted_none}, Named.{pin_is}, RingSeen.{seen_client}}
use Rattle.df_mirror.proofs.replies.sessions_at_head.Goals.{then-is_some-via-then-is_some, then-is_some-via-else-is_some+then-len-places}
use Rattle.df_mirror.proofs.replies.sessions_at_head.Goals as goal

pub loop-op-init : goal.loop-op-init
loop-op-init c = let b = c.args.base.now in let start = c.args.sessions.sessions in
    let none : 0 ≡ c.fields-fields.result.now.op - c.fields-fields.result.now.op = omega arith in record {
      low = omega arith;
      high = rw (sym c.fields-fields.ensures.value) at c.fields-fields.ensures.usable.rules.head.0;
      places = refl;
      noted = rw (← none) (noted_none b c.args.slots.now start (omega (arith, c.requires.few, c.requires.places)));
    }

pub loop-op-preserved : goal.loop-op-preserved
loop-op-preserved c = let now = c.loop-op in record {
  low = omega (arith, now.invariant.low);
  high = omega arith;
  places = now.invariant.places;
  noted = none_next c.args.base.now c.args.slots.now c.args.sessions.sessions now.sessions.sessions c.fields-fields.result.now
      c.fields-fields.ensures.value now.op now.invariant.low (omega arith) now.invariant.noted
      c.slot_of.result c.slot_of.ensures.value (sym c.prepare.ensures ∙ c.in_default.is);
}

pub returns-clause-sessions : goal.returns-clause-sessions
returns-clause-sessions c = λ image named tells known count. let b = c.args.base.now in let i = c.loop-op.invariant in
    let op = ap (λ (f : SuperFields). f.op) c.fields-fields.ensures.value in
    let head = ap (λ (f : SuperFields). f.head) c.fields-fields.ensures.value in
    noted_all b c.args.slots.now c.args.sessions.sessions c.loop-op.sessions.sessions (c.loop-op.op - c.fields-fields.result.now.op)
    (omega (arith, i.low, i.high, pin_is b, op, head)) i.noted image named tells known count

pub returns-clause-places : goal.returns-clause-places
returns-clause-places c = c.loop-op.invariant.places

pub apply-place-requires-clause-named : goal.apply-place-requires-clause-named
apply-place-requires-clause-named c =
    seen_client c.args.base.now.file.layout c.args.base.now.file.cluster c.args.slots.now c.slot_of.result c.in-Some.header
    c.requires.table (omega (arith, c.slot_of.ensures.below, c.requires.table.size)) (sym c.prepare.ensures ∙ c.in-Some.is)

pub loop-op-preserved-in-Some : goal.loop-op-preserved-in-Some
loop-op-preserved-in-Some c = let now = c.loop-op in let table = now.sessions in let h = header_of c.in-Some.header in
    let places = c.from-places.result in let new = c.apply-place.new.self.sessions in let same = c.apply-place.ensures.noted h refl in
    record {
      low = omega (arith, now.invariant.low);
      high = omega arith;
      places = c.apply-place.ensures.places ∙ now.invariant.places;
      noted = noted_next c.args.base.now c.args.slots.now c.args.sessions.sessions table.sessions c.fields-fields.result.now
          c.fields-fields.ensures.value now.op now.invariant.low (omega arith) now.invariant.noted
          c.slot_of.result c.slot_of.ensures.value new c.in-Some.header (sym c.prepare.ensures ∙ c.in-Some.is) places c.from-places.ensures
          (λ ss is. elim c.then-is_some.branch [
            | then-is_some-via-then-is_some w ↦ noted_known h table.sessions places ss is new
                (rw c.place_of.ensures at (sym c.is_some.ensures ∙ w.if-is_some.true)) same
            | then-is_some-via-else-is_some+then-len-places w ↦
                noted_last h table.sessions places ss is new (omega (arith, w.len.ensures.value, w.if-len-places.true)) same
          ]);
    }

pub loop-op-preserved-in-Some-2 : goal.loop-op-preserved-in-Some-2
loop-op-preserved-in-Some-2 c = let now = c.loop-op in let table = now.sessions in let places = c.from-places.result in record {
  low = omega (arith, now.invariant.low);
  high = omega arith;
  places = now.invariant.places;
  noted = noted_next c.args.base.now c.args.slots.now c.args.sessions.sessions table.sessions c.fields-fields.result.now
      c.fields-fields.ensures.value now.op now.invariant.low (omega arith) now.invariant.noted
      c.slot_of.result c.slot_of.ensures.value table.sessions c.in-Some.header (sym c.prepare.ensures ∙ c.in-Some.is) places
      c.from-places.ensures (λ ss is. noted_no (header_of c.in-Some.header) table.sessions places ss is
      (omega (arith, c.len.ensures.value, c.if-len-places.false))
      (sym c.place_of.ensures ∙ none_if c.place_of.result (sym c.is_some.ensures ∙ c.if-is_some.false)));
}
