use Rattle.std.proofs.{Common.{◌≡◌, ◌<◌, ◌+◌, ◌*◌, ◌++◌, ◌∙◌, ℕ, List, length, take, get_or, sym, ap, arith, append_assoc}, lemmas.List.{append-nil, take_all, take_more}}
use Rattle.df_format.{specs.Super.{checks_bytes}, proofs.Checks.{checks_more}}
use Rattle.df_format.proofs.super_codec.put_checks.Goals as goal

-- before the first there is none
front_none : (checks : List (List ℕ)) (entry : List ℕ) → take (192 + 16 * 0) entry ≡ take 192 entry ++ checks_bytes (take 0 checks)
unfolding checks_bytes
front_none checks entry = sym (append-nil (take 192 entry))

-- one checksum more stands after the others
front_more : (checks : List (List ℕ)) (k : ℕ) (past entry old new : List ℕ)
    → k < length checks → take (192 + 16 * k + 16) new ≡ take (192 + 16 * k) old ++ get_or checks k past
    → take (192 + 16 * k) old ≡ take 192 entry ++ checks_bytes (take k checks)
    → take (192 + 16 * (k + 1)) new ≡ take 192 entry ++ checks_bytes (take (k + 1) checks)
front_more checks k past entry old new inside is before = let same : 192 + 16 * (k + 1) ≡ 192 + 16 * k + 16 = omega arith in
    ap (λ (n : ℕ). take n new) same ∙ is ∙ ap (λ (l : List ℕ). l ++ get_or checks k past) before
    ∙ append_assoc (take 192 entry) (checks_bytes (take k checks)) (get_or checks k past)
    ∙ ap (λ (l : List ℕ). take 192 entry ++ l) (sym (checks_more checks k past (take_more checks k past inside)))

-- after the last they are all there
front_all : (checks : List (List ℕ)) (k : ℕ) (entry new : List ℕ) → length checks ≡ 64 → k ≡ 64
    → take (192 + 16 * k) new ≡ take 192 entry ++ checks_bytes (take k checks) → take 1216 new ≡ take 192 entry ++ checks_bytes checks
front_all checks k entry new size end is = let all : 1216 ≡ 192 + 16 * k = omega (arith, end) in ap (λ (n : ℕ). take n new) all
    ∙ is ∙ ap (λ (l : List (List ℕ)). take 192 entry ++ checks_bytes l) (take_all k checks (omega (arith, size, end)))

pub loop-place-init : goal.loop-place-init
loop-place-init c = record { within = omega arith; size = c.requires; front = front_none c.args.checks.now c.args.into.now }

pub loop-place-preserved : goal.loop-place-preserved
loop-place-preserved c = record {
  within = omega (arith, c.loop-place-test.true);
  size = c.put_check.auto.into ∙ c.loop-place.invariant.size;
  front = front_more c.args.checks.now c.loop-place.place _
      c.args.into.now _ c.put_check.new.into (omega (arith, c.loop-place-test.true)) c.put_check.ensures.front c.loop-place.invariant.front;
}

pub returns : goal.returns
returns c = front_all c.args.checks.now c.loop-place.place c.args.into.now
    c.loop-place.into (omega arith) (omega (arith, c.loop-place-test.false, c.loop-place.invariant.within)) c.loop-place.invariant.front
