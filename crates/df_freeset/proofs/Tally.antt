-- How many of n bits are set, bit by bit and word by word.
use Rattle.std.{proofs.{Common.{◌≡◌, ℕ, zero, suc, ◌+◌, ◌*◌, ◌/◌, ◌%◌, ◌^◌, ◌<◌, Bool, true, false, cond, List, [], ◌∷◌, length, map, refl, ap, sym, ◌∙◌, arith, add-zero}, lemmas.Nat.{mod-pow-add, mod_below, pow_pos, ones_cat}, lemmas.Nat.Bits.{bit_at-lt}, lemmas.List.Sums.{sum_by-cons}}, specs.{Prelude.{◌==◌, not, count_by, count_ones, sum_by, slice_index}, Int.{bit_at}, Int.Count.{ones}, List.{range_with_len}}}
use Rattle.df_freeset.specs.Bits.{bit_in}

-- how many of the n numbers from a on pass
unfoldable pub tally : (ℕ → Bool) → ℕ → ℕ → ℕ
tally f a zero = 0
tally f a (suc n) = cond (f a) 1 0 + tally f (a + 1) n

pub tally_split : (f : ℕ → Bool) (a m n : ℕ) → tally f a (m + n) ≡ tally f a m + tally f (a + m) n
unfolding tally
tally_split f a zero n = let e : zero + n ≡ n = omega arith in let z : a + zero ≡ a = omega arith in rw (e, z) (omega arith)
tally_split f a (suc m) n = let e : suc m + n ≡ suc (m + n) = omega arith in let z : a + suc m ≡ (a + 1) + m = omega arith in
    rw (e, z) (omega (arith, tally_split f (a + 1) m n))

-- two tests that agree
pub tally_same : (f g : ℕ → Bool) (a b n : ℕ) → ((i : ℕ) → i < n → f (a + i) ≡ g (b + i)) → tally f a n ≡ tally g b n
unfolding tally
tally_same f g a b zero same = refl
tally_same f g a b (suc n) same = let here : f a ≡ g b = (rw (add-zero, add-zero) at (same 0 (omega arith))) in
    let each : (i : ℕ) → i < n → f ((a + 1) + i) ≡ g ((b + 1) + i) =
    λ i h. (let e : (a
    + 1) + i ≡ a + suc i = omega arith in let k : (b + 1) + i ≡ b + suc i = omega arith in rw (e, k) (same (suc i) (omega arith))) in
    let rest : tally f (a + 1) n ≡ tally g (b + 1) n = tally_same f g (a + 1) (b + 1) n each in rw (here, rest) refl

pub tally_none : (f : ℕ → Bool) (a n : ℕ) → ((i : ℕ) → i < n → f (a + i) ≡ false) → tally f a n ≡ 0
unfolding tally
tally_none f a zero none = refl
tally_none f a (suc n) none = let here : f a ≡ false = (rw add-zero at (none 0 (omega arith))) in
    let each : (i : ℕ) → i < n → f ((a + 1) + i) ≡ false =
    λ i h. (let e : (a + 1) + i ≡ a + suc i = omega arith in rw e (none (suc i) (omega arith))) in
    rw here (omega (arith, tally_none f (a + 1) n each))

-- of n bits those are free that aren't counted
pub free_and_tally : (f : ℕ → Bool) (a n : ℕ) → count_by not (map f (range_with_len a n)) + tally f a n ≡ n
unfolding tally
free_and_tally f a zero = refl
free_and_tally f a (suc n) =
    let rest : count_by not (map f (range_with_len (a + 1) n)) + tally f (a + 1) n ≡ n = free_and_tally f (a + 1) n in
    let count : count_by not (f a ∷ map f (range_with_len (a + 1) n)) ≡ cond (not (f a)) 1 0 + count_by not (map f (range_with_len (a + 1) n)) =
    sum_by-cons (λ x. cond (not x) 1 0) (f a) (map f (range_with_len (a + 1) n)) in
    rw count (one_of_two (f a) (count_by not (map f (range_with_len (a + 1) n))) (tally f (a + 1) n) n rest)
  where
    one_of_two : (b : Bool) (x y n : ℕ) → x + y ≡ n → (cond (not b) 1 0 + x) + (cond b 1 0 + y) ≡ suc n
    one_of_two true x y n e = omega arith
    one_of_two false x y n e = omega arith

tally_one : (f : ℕ → Bool) (a : ℕ) → tally f a 1 ≡ cond (f a) 1 0
unfolding tally
tally_one f a = omega arith

one_bit : (b : ℕ) → b < 2 → cond (b == 1) 1 0 ≡ count_ones b
unfolding ones
one_bit zero small = refl
one_bit (suc zero) small = refl
one_bit (suc (suc b)) small = absurd (omega arith)

tally_zero : (f : ℕ → Bool) (a : ℕ) → tally f a 0 ≡ 0
unfolding tally
tally_zero f a = refl

ones_zero : count_ones 0 ≡ 0
unfolding ones
ones_zero = refl

-- the low k bits of a word
pub tally_bits : (word k : ℕ) → tally (λ i. bit_at word i == 1) 0 k ≡ count_ones (word % 2 ^ k)
tally_bits word zero = let one : word % 2 ^ 0 ≡ 0 = omega arith in rw one (tally_zero (λ i. bit_at word i == 1) 0 ∙ sym ones_zero)
tally_bits word (suc k) = let f : ℕ → Bool = λ i. bit_at word i == 1 in
    let low : tally f 0 k ≡ count_ones (word % 2 ^ k) = tally_bits word k in let first : 0 + k ≡ k = omega arith in
    let next : suc k ≡ k + 1 = omega arith in
    let split : tally f 0 (suc k) ≡ tally f 0 k + tally f k 1 = (rw (next, tally_split f 0 k 1, first) refl) in
    let last : tally f k 1 ≡ cond (f k) 1 0 = tally_one f k in
    let bit : cond (f k) 1 0 ≡ count_ones (bit_at word k) = one_bit (bit_at word k) (bit_at-lt word k) in
    let cat : count_ones ((word / 2 ^ k % 2) * 2 ^ k + word % 2 ^ k) ≡ count_ones (word / 2 ^ k % 2) + count_ones (word % 2 ^ k) =
    ones_cat k (word / 2 ^ k % 2) (word % 2 ^ k) (mod_below word (2 ^ k) (pow_pos k)) in let more : 1 + k ≡ suc k = omega arith in
    let high : word % 2 ^ suc k ≡ (word / 2 ^ k % 2) * 2 ^ k + word % 2 ^ k = (rw more at (mod-pow-add word 1 k)) in
    let whole : count_ones (word % 2 ^ suc k) ≡ count_ones ((word / 2 ^ k % 2) * 2 ^ k + word % 2 ^ k) = ap count_ones high in
    omega (arith, low, split, last, bit, cat, whole)

-- all bits of all words
pub tally_words : (words : List ℕ)
    → ((i : ℕ) → slice_index words i < 2 ^ 64) → tally (bit_in words) 0 (64 * length words) ≡ sum_by count_ones words
tally_words [] fit = tally_zero (bit_in []) 0
tally_words (word ∷ words) fit = let first : tally (bit_in (word ∷ words)) 0 64 ≡ tally (λ i. bit_at word i == 1) 0 64 =
    tally_same (bit_in (word ∷ words)) (λ i. bit_at word i == 1) 0 0 64 (in_first word words) in
    let rest : tally (bit_in (word ∷ words)) 64 (64 * length words) ≡ tally (bit_in words) 0 (64 * length words) =
    tally_same (bit_in (word ∷ words)) (bit_in words) 64 0 (64 * length words) (λ i h. in_rest word words i) in
    let small : word < 2 ^ 64 = fit 0 in let whole : word % 2 ^ 64 ≡ word = omega arith in
    let low : tally (λ i. bit_at word i == 1) 0 64 ≡ count_ones word = tally_bits word 64 ∙ ap count_ones whole in
    let size : 64 * length (word ∷ words) ≡ 64 + 64 * length words = omega arith in
    let split : tally (bit_in (word ∷ words)) 0 (64 + 64 * length words)
    ≡ tally (bit_in (word ∷ words)) 0 64 + tally (bit_in (word ∷ words)) 64 (64 * length words) =
    tally_split (bit_in (word ∷ words)) 0 64 (64 * length words) in
    rw (size, split, first, rest, low, tally_words words (λ i. fit (suc i))) (sym (sum_by-cons count_ones word words))
  where
    in_first : (word : ℕ) (words : List ℕ) (i : ℕ) → i < 64 → bit_in (word ∷ words) (0 + i) ≡ (bit_at word (0 + i) == 1)
    in_first word words i h = let row : (0 + i) / 64 ≡ 0 = omega arith in let column : (0 + i) % 64 ≡ 0 + i = omega arith in
        rw (row, column) refl

    in_rest : (word : ℕ) (words : List ℕ) (i : ℕ) → bit_in (word ∷ words) (64 + i) ≡ bit_in words (0 + i)
    in_rest word words i = let row : (64 + i) / 64 ≡ suc ((0 + i) / 64) = omega arith in
        let column : (64 + i) % 64 ≡ (0 + i) % 64 = omega arith in rw (row, column) refl
