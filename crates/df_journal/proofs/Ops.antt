-- The one op above a checkpoint's that belongs in a slot.
use Rattle.std.proofs.{Common.{◌≡◌, inl, inr, ℕ, ◌+◌, ◌-◌, ◌*◌, ◌/◌, ◌%◌, ◌<◌, ◌≤◌, sym, ◌∙◌, ap, arith}, lemmas.Bool.{cases_lt}, lemmas.Nat.{mod-mul-add}, Math.Nat.{div-add-mod, mod-lt, mul-le-mul_left}}
use Rattle.df_journal.specs.Seen.{IsOpOf}

pub op_of_slot : (n op slot : ℕ) → 0 < n → slot < n → IsOpOf n op slot (op + 1 + (slot + n - (op + 1) % n) % n)
op_of_slot n op slot some below = elim (cases_lt slot r) [
  | inl less ↦ let none_more : slot + n - r ≡ 0 * n + (slot + n - r) = omega arith in
      let d : (slot + n - r) % n ≡ slot + n - r = ap (λ (k : ℕ). k % n) none_more ∙ mod-mul-add 0 n (slot + n - r) (omega (arith, small)) in
      let is : op + 1 + (slot + n - r) % n ≡ (q + 1) * n + slot = omega (arith, d, split, small, one_more) in
      record { above = omega arith; within = omega (arith, d, less); slot_is = ap (λ (k : ℕ). k % n) is ∙ mod-mul-add (q + 1) n slot below }
  | inr more ↦ let more_is : slot + n - r ≡ 1 * n + (slot - r) = omega (arith, small) in
      let d : (slot + n - r) % n ≡ slot - r = ap (λ (k : ℕ). k % n) more_is ∙ mod-mul-add 1 n (slot - r) (omega arith) in
      let is : op + 1 + (slot + n - r) % n ≡ q * n + slot = omega (arith, d, split, more) in
      record { above = omega arith; within = omega (arith, d, below); slot_is = ap (λ (k : ℕ). k % n) is ∙ mod-mul-add q n slot below }
]
  where
    r : ℕ
    r = (op + 1) % n

    q : ℕ
    q = (op + 1) / n

    small : r < n
    small = mod-lt (op + 1) some

    one_more : (q + 1) * n ≡ q * n + n
    one_more = omega arith

    split : q * n + r ≡ op + 1
    split = omega (arith, div-add-mod (op + 1) n)

-- two numbers less than n apart with one remainder are one
close : (n a b : ℕ) → a ≤ b → b < a + n → a % n ≡ b % n → a ≡ b
close n a b below near same = elim (cases_lt (a / n) (b / n)) [
  | inl less ↦ let step : a / n + 1 ≤ b / n = omega (arith, less) in omega (arith, mul-le-mul_left n step, div-add-mod a n, div-add-mod b n)
  | inr more ↦ omega (arith, mul-le-mul_left n more, div-add-mod a n, div-add-mod b n)
]

pub one_op : (n op slot a b : ℕ) → IsOpOf n op slot a → IsOpOf n op slot b → a ≡ b
one_op n op slot a b one two = elim (cases_lt a b) [
  | inl less ↦ close n a b (omega arith) (omega (arith, one.above, two.within)) (one.slot_is ∙ sym two.slot_is)
  | inr more ↦ sym (close n b a more (omega (arith, two.above, one.within)) (two.slot_is ∙ sym one.slot_is))
]
