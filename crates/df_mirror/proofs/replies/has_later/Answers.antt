-- Each turn looks at one slot more.
use Rattle.std.proofs.{Common.{◌≡◌, ◌∙◌, ℕ, None, Some, ap, arith, inl, inr, sym, subst}, lemmas.Bool.{cases_eq}, lemmas.Option.{same_Some}}
use Rattle.df_format.specs.declared.{header.Header.{Header}, superblock.SuperFields.{SuperFields}}
use Rattle.df_mirror.proofs.HeadSessions.{NoneLater, later_seen, none_later}
use Rattle.df_mirror.proofs.replies.has_later.Goals.{in-Some+else-header-fields, else-header-fields-via-then-header-fields+then-fields-header+else-header-client, else-header-fields-via-then-header-fields+else-fields-header, else-header-fields-via-else-header-fields, in_default}
use Rattle.df_mirror.proofs.replies.has_later.Goals as goal

pub loop-slot-init : goal.loop-slot-init
loop-slot-init c = λ k below. absurd (omega (arith, below))

pub returns-clause-no : goal.returns-clause-no
returns-clause-no c = λ image tells none later. none_later c.args.base.now c.args.slots.now c.args.client
    (λ k below. c.loop-slot.invariant k (omega (arith, below, c.loop-slot-test, c.loop-slot.auto))) image tells later

pub loop-slot-preserved : goal.loop-slot-preserved
loop-slot-preserved c = λ k below. elim (cases_eq k c.loop-slot.slot) [
  | inl here ↦ subst (λ (n : ℕ). NoneLater c.args.base.now c.args.slots.now c.args.client n) (sym here) (λ image p tells shown later.
      let seen = later_seen c.args.base.now c.args.slots.now c.loop-slot.slot c.args.client image tells p shown later in
      elim c.match-prepare.branch [
        | in-Some+else-header-fields w ↦
            let both : Some seen.0 ≡ Some w.in-Some.header = sym seen.1 ∙ sym c.prepare.ensures ∙ w.in-Some.is in
            let same : seen.0 ≡ w.in-Some.header = same_Some _ _ both in elim w.else-header-fields.branch [
              | else-header-fields-via-then-header-fields+then-fields-header+else-header-client v ↦
                  v.if-header-client.false (ap (λ (h : Header). h.client) (sym same) ∙ seen.4)
              | else-header-fields-via-then-header-fields+else-fields-header v ↦
                  let head = ap (λ (f : SuperFields). f.head) c.fields-fields.ensures.value in
                  omega (arith, v.if-fields-header.false, ap (λ (h : Header). h.op) same, seen.3, head)
              | else-header-fields-via-else-header-fields v ↦
                  v.if-header-fields.false (ap (λ (h : Header). h.boot) (sym same) ∙ seen.2 ∙ ap (λ (f : SuperFields). f.boot)
                  (sym c.fields-fields.ensures.value))
            ]
        | in_default w ↦ absurd (let both : Some seen.0 ≡ None = sym seen.1 ∙ sym c.prepare.ensures ∙ w.in_default.is in cc)
      ])
  | inr other ↦ c.loop-slot.invariant k (omega (arith, below, other))
]
