-- How many addresses are free, and how that changes.
use Rattle.std.{proofs.{Common.{◌≡◌, ℕ, zero, suc, ◌+◌, ◌-◌, ◌*◌, ◌/◌, ◌<◌, Bool, true, false, cond, Some, List, [], ◌∷◌, length, set, refl, ap, arith}, lemmas.List.Sums.{sum_by-cons}}, specs.Prelude.{not, slice_get, sum_by, count_ones}}
use Rattle.df_freeset.{specs.{Addresses.{AreAllTaken, count_free}, Bits.{IsRoom, bit_in, taken_in}}, proofs.Tally.{tally, tally_split, tally_none, tally_words, free_and_tally}}

-- of n addresses those are free whose bit isn't set
pub free_and_ones : (words : List ℕ) (n : ℕ) → IsRoom words n → count_free (taken_in words n) + sum_by count_ones words ≡ n
free_and_ones words n room = let f : ℕ → Bool = bit_in words in let size : length words ≡ (n + 63) / 64 = room.size in
    let rest : ℕ = 64 * length words - n in let whole : 64 * length words ≡ n + rest = omega arith in
    let ones : tally f 0 (64 * length words) ≡ sum_by count_ones words = tally_words words room.words_fit in
    let split : tally f 0 (n + rest) ≡ tally f 0 n + tally f (0 + n) rest = tally_split f 0 n rest in
    let unused : tally f (0 + n) rest ≡ 0 = tally_none f (0 + n) rest (λ i h. room.unused ((0 + n) + i) (omega arith)) in
    let free : count_free (taken_in words n) + tally f 0 n ≡ n = free_and_tally f 0 n in
    let same : tally f 0 (64 * length words) ≡ tally f 0 (n + rest) = ap (λ (k : ℕ). tally f 0 k) whole in
    omega (arith, ones, split, unused, free, same)

free-cons : (b : Bool) (taken : List Bool) → count_free (b ∷ taken) ≡ cond (not b) 1 0 + count_free taken
free-cons b taken = sum_by-cons (λ x. cond (not x) 1 0) b taken

-- a free address is taken
pub one_fewer : (taken : List Bool) (i : ℕ) → slice_get taken i ≡ Some false → count_free (set taken i true) + 1 ≡ count_free taken
one_fewer [] i is = cc
one_fewer (b ∷ taken) zero is = let e : b ≡ false = cc in
    omega (arith, free-cons true taken, free-cons b taken, ap {B = ℕ} (λ (x : Bool). cond (not x) 1 0) e)
one_fewer (b ∷ taken) (suc i) is = omega (arith, free-cons b taken, free-cons b (set taken i true), one_fewer taken i is)

-- a taken address is given back
pub one_more : (taken : List Bool) (i : ℕ) → slice_get taken i ≡ Some true → count_free (set taken i false) ≡ count_free taken + 1
one_more [] i is = cc
one_more (b ∷ taken) zero is = let e : b ≡ true = cc in
    omega (arith, free-cons false taken, free-cons b taken, ap {B = ℕ} (λ (x : Bool). cond (not x) 1 0) e)
one_more (b ∷ taken) (suc i) is = omega (arith, free-cons b taken, free-cons b (set taken i false), one_more taken i is)

none_at : (taken : List Bool) → count_free taken ≡ 0 → (i : ℕ) → i < length taken → slice_get taken i ≡ Some true
none_at [] none i within = absurd (omega arith)
none_at (true ∷ taken) none zero within = refl
none_at (true ∷ taken) none (suc i) within = none_at taken (omega (arith, free-cons true taken)) i (omega arith)
none_at (false ∷ taken) none i within = absurd (omega (arith, free-cons false taken))

at_none : (taken : List Bool) → ((i : ℕ) → i < length taken → slice_get taken i ≡ Some true) → count_free taken ≡ 0
at_none [] each = refl
at_none (true ∷ taken) each = omega (arith, free-cons true taken, at_none taken (λ i h. each (suc i) (omega arith)))
at_none (false ∷ taken) each = let here : Some false ≡ Some true = each 0 (omega arith) in cc

-- none is free exactly where all are taken
pub none_free : (taken : List Bool) → count_free taken ≡ 0 → AreAllTaken taken
none_free taken none address has = none_at taken none (address - 1) (omega arith)

pub all_taken : (taken : List Bool) → AreAllTaken taken → count_free taken ≡ 0
all_taken taken all = at_none taken (λ i h. (let same : suc i - 1 ≡ i = omega arith in rw same at (all (suc i) (omega arith, omega arith))))
