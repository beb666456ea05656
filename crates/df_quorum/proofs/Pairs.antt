-- Pairs of sequence and boot are in the order of their ranks.
use Rattle.std.proofs.{Common.{inl, inr, ◌≡◌, ◌<◌, ◌+◌, ◌*◌, ◌&&◌, ◌==◌, ℕ, Bool, true, false, nat_lt, refl, sym, arith}, lemmas.Bool.{and_parts, and_from, or_cases, or_left, or_right, ltb-true, lt-ltb, eqb-true, eq-eqb, cases_lt}}
use Rattle.df_quorum.specs.Best.{is_below}

same_answer : (a b : Bool) → (a ≡ true → b ≡ true) → (b ≡ true → a ≡ true) → a ≡ b
same_answer true b there back = sym (there refl)
same_answer false true there back = back refl
same_answer false false there back = refl

pub below_by_rank : (s b t d : ℕ) → b < 18446744073709551616
    → d < 18446744073709551616 → is_below s b t d ≡ nat_lt (18446744073709551616 * s + b) (18446744073709551616 * t + d)
below_by_rank s b t d small_b small_d =
    same_answer (is_below s b t d) (nat_lt (18446744073709551616 * s + b) (18446744073709551616 * t + d)) (λ is. elim (or_cases _ _ is) [
      | inl before ↦ (let less : s < t = ltb-true s t before in lt-ltb _ _ (omega (arith, less, small_b)))
      | inr tie ↦ let both = and_parts _ _ tie in let same : s ≡ t = eqb-true s t both.0 in let less : b < d = ltb-true b d both.1 in
          lt-ltb _ _ (omega (arith, same, less))
    ]) (λ is.
    let below : 18446744073709551616 * s + b < 18446744073709551616 * t + d = ltb-true _ _ is in elim (cases_lt s t) [
      | inl less ↦ or_left (nat_lt s t) ((s == t) && nat_lt b d) (lt-ltb s t less)
      | inr not_less ↦ let same : s ≡ t = omega (arith, below, not_less, small_d) in let less : b < d = omega (arith, below, same) in
          or_right (nat_lt s t) ((s == t) && nat_lt b d) (and_from _ _ (eq-eqb s t same) (lt-ltb b d less))
    ])
