-- One more has sixteen bytes.
use Rattle.std.{proofs.{Common.{◌≡◌, ◌<◌, ◌+◌, inl, inr, ℕ, List, length, get_or, Some, sym, ◌∙◌, ap, subst, arith}, lemmas.Bool.{cases_lt}, lemmas.Option.{slice_get-get_or}}, specs.List.{slice_get}}
use Rattle.df_format.specs.Spelling.{IsCheck}
use Rattle.df_format.proofs.super_rules.are_checks.Goals as goal

next_check : (checks : List (List ℕ)) (place : ℕ) (e : List ℕ)
    → place < length checks → IsCheck (get_or checks place e) → ((k : ℕ) (d : List ℕ) → k < place → IsCheck (get_or checks k d))
    → (k : ℕ) (d : List ℕ) → k < place + 1 → IsCheck (get_or checks k d)
next_check checks place e inside is old k d less = elim (cases_lt k place) [
  | inl before ↦ old k d before
  | inr here ↦ let same : k ≡ place = omega arith in
      let both : Some (get_or checks k d) ≡ Some (get_or checks place e) = sym (slice_get-get_or checks k d (omega (arith, same, inside)))
      ∙ ap (slice_get checks) same ∙ slice_get-get_or checks place e inside in
      let one : get_or checks place e ≡ get_or checks k d = cc in subst IsCheck one is
]

pub loop-place-preserved : goal.loop-place-preserved
loop-place-preserved c = record {
  within = omega (arith, c.loop-place-test.true);
  each = next_check
      c.args.checks.now c.loop-place.place _ (omega (arith, c.loop-place-test.true)) c.as_check.ensures.check c.loop-place.invariant.each;
}

pub returns : goal.returns
returns c = let size : length c.args.checks.now ≡ 64 = omega arith in
    record { size = size; each = λ k d less. c.loop-place.invariant.each k d (omega (arith, size, less, c.loop-place-test.false)) }
