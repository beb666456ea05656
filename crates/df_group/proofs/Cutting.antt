-- A prepare says nothing of the head exactly where it was cut off with its group.
use Rattle.std.{proofs.{Common.{◌≡◌, ◌==◌, ◌↔◌, inl, inr, ℕ, ◌+◌, ◌≤◌, Bool, true, false, refl, sym, ◌∙◌, ap, arith}, lemmas.Bool.{cases_Bool, cases_eq, cond-true, cond-false, eq-eqb, eqb-true, lt-ltb, ltb-true, ne_eqb}}, specs.Prelude.{nat_lt, ◌&&◌}}
use Rattle.{df_theory.specs.{Units.{Header}, Tails.{BindsHead, IsCutOff}}, df_units.specs.Greatest.{in_boot}}
use Rattle.df_group.specs.Cut.{binding_op, is_cut_off}

-- the number of a unit of this boot
own_is : (boot : ℕ) (number : Header → ℕ) (h : Header) → h.boot ≡ boot → in_boot boot number h ≡ number h
own_is boot number h own = cond-true (h.boot == boot) (number h) 0 (eq-eqb h.boot boot own)

pub within_own : (boot n : ℕ) (number : Header → ℕ) (h : Header) → (h.boot ≡ boot → number h ≤ n) → in_boot boot number h ≤ n
within_own boot n number h all = elim (cases_eq h.boot boot) [
  | inl own ↦ omega (arith, own_is boot number h own, all own)
  | inr other ↦ omega (arith, cond-false (h.boot == boot) (number h) 0 (ne_eqb h.boot boot other))
]

pub own_within : (boot n : ℕ) (number : Header → ℕ) (h : Header) → in_boot boot number h ≤ n → h.boot ≡ boot → number h ≤ n
own_within boot n number h le own = omega (arith, le, own_is boot number h own)

both_true : (a b : Bool) → (a && b) ≡ true → (a ≡ true) × (b ≡ true)
both_true true b is = (refl, is)
both_true false b is = let both : false ≡ true = is in absurd (cc)

true_both : (a b : Bool) → a ≡ true → b ≡ true → (a && b) ≡ true
true_both a b one two = ap (λ (x : Bool). x && b) one ∙ two

pub cut_off : (top : ℕ) (h : Header) → is_cut_off top h ≡ true ↔ IsCutOff top h
cut_off top h = (to, from)
  where
    to : is_cut_off top h ≡ true → IsCutOff top h
    to is = let one = both_true (nat_lt 0 h.boot) ((h.group == top + 1) && (nat_lt h.group h.group_last && nat_lt top h.op)) is in
        let two = both_true (h.group == top + 1) (nat_lt h.group h.group_last && nat_lt top h.op) one.1 in
        let three = both_true (nat_lt h.group h.group_last) (nat_lt top h.op) two.1 in
        record { boot = ltb-true 0 h.boot one.0; first = eqb-true h.group (top + 1) two.0; several = ltb-true h.group h.group_last three.0; above = ltb-true top h.op three.1 }

    from : IsCutOff top h → is_cut_off top h ≡ true
    from is = let three =
        true_both (nat_lt h.group h.group_last) (nat_lt top h.op) (lt-ltb h.group h.group_last is.several) (lt-ltb top h.op is.above) in
        let two = true_both (h.group == top + 1) (nat_lt h.group h.group_last && nat_lt top h.op) (eq-eqb h.group (top + 1) is.first) three in
        true_both (nat_lt 0 h.boot) ((h.group == top + 1) && (nat_lt h.group h.group_last && nat_lt top h.op)) (lt-ltb 0 h.boot is.boot) two

-- a prepare binds the head exactly where its op that does isn't above it
pub binds : (boot top : ℕ) (h : Header) → binding_op boot top h ≤ top ↔ (h.boot ≡ boot → BindsHead top h)
binds boot top h = elim (cases_Bool (is_cut_off top h)) [
  | inl cut ↦ (λ le own. inr ((cut_off top h).0 cut), λ all. omega (arith, cond-true (is_cut_off top h) 0 (in_boot boot (λ x. x.op) h) cut))
  | inr whole ↦
      let is : binding_op boot top h ≡ in_boot boot (λ x. x.op) h = cond-false (is_cut_off top h) 0 (in_boot boot (λ x. x.op) h) whole in (
        λ le own. inl (own_within boot top (λ x. x.op) h (omega (arith, le, is)) own),
        λ all. omega (arith, is, within_own boot top (λ x. x.op) h (λ own. elim (all own) [ inl low ↦ low | inr cut ↦ let both : true ≡ false = sym ((cut_off top h).1 cut) ∙ whole in absurd (cc) ])),
      )
]
