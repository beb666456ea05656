-- The lowest zero of the words is the least free address.
use Rattle.std.{proofs.{Common.{◌≡◌, ℕ, ◌+◌, ◌-◌, ◌*◌, ◌/◌, ◌%◌, ◌^◌, ◌<◌, ◌≤◌, Bool, true, false, inl, inr, Some, None, List, length, get_or, refl, sym, ◌∙◌, arith, true≢false}, lemmas.Bool.{cases_Bool, cases_lt, eqb-true, eq-eqb}, lemmas.List.Quantifiers.{position-Some}, lemmas.List.Sums.{fails_before_first}, lemmas.Nat.Bits.{bit_at_ones, bit_at-trailing_ones}}, specs.{Prelude.{◌==◌, nat_lt, slice_index}, Int.{bit_at, trailing_ones, w64}, List.{position, position_or_len}}}
use borrow.Author.Tests.{ltb-false}
use Rattle.df_freeset.{specs.{Addresses.{IsTaken, IsFree, IsLeastFree, AreAllTaken}, Bits.{IsRoom, AreWords, AreFull, IsLowestZero, is_open, bit_in, taken_in}}, proofs.Words.{length_taken, taken_at}}

greatest_bits : (j : ℕ) → j < 64 → bit_at 18446744073709551615 j ≡ 1
greatest_bits j within = bit_at_ones 64 j within

-- a word with no zero has every bit
pub full_bits : (word j : ℕ) → is_open word ≡ false → j < 64 → (bit_at word j == 1) ≡ true
full_bits word j closed within = elim (cases_Bool (word == 18446744073709551615)) [
  | inl same ↦ rw (eqb-true word 18446744073709551615 same, greatest_bits j within) refl
  | inr other ↦ absurd (let is : is_open word ≡ true = (rw other refl) in let both : true ≡ false = sym is ∙ closed in true≢false both)
]

-- a word with a zero is below the greatest
open_below : (word : ℕ) → is_open word ≡ true → word < 2 ^ 64 → word + 1 < 2 ^ 64
open_below word has_zero fits = elim (cases_lt word 18446744073709551615) [
  | inl below ↦ omega arith
  | inr above ↦ let same : word ≡ 18446744073709551615 = omega arith in
      let closed : is_open word ≡ false = (rw (eq-eqb word 18446744073709551615 same) refl) in absurd (true≢false (sym has_zero ∙ closed))
]

zero_at : (words : List ℕ) (w t word : ℕ) → word ≡ slice_index words w → t < 64 → bit_at word t ≡ 0 → bit_in words (w * 64 + t) ≡ false
zero_at words w t word is small clear = let row : (w * 64 + t) / 64 ≡ w = omega arith in let column : (w * 64 + t) % 64 ≡ t = omega arith in
    rw (row, column, ← is, clear) refl

ones_below : (words : List ℕ) (w t word k : ℕ) → word ≡ slice_index words w → t < 64 → ((i : ℕ) → i < t → bit_at word i ≡ 1)
    → ((i : ℕ) → i < w → is_open (get_or words i 0) ≡ false) → k < w * 64 + t → bit_in words k ≡ true
ones_below words w t word k is small ones closed below = elim (cases_lt (k / 64) w) [
  | inl before ↦ full_bits (slice_index words (k / 64)) (k % 64) (closed (k / 64) before) (omega arith)
  | inr after ↦ let row : k / 64 ≡ w = omega arith in let column : k % 64 < t = omega arith in rw (row, ← is, ones (k % 64) column) refl
]

-- where all words before one with a zero are full, its lowest zero is the lowest of all
pub zero_in_word : (words : List ℕ) (w word t : ℕ) → AreWords words → w < length words → word ≡ slice_index words w → is_open word ≡ true
    → ((k : ℕ) → k < w → is_open (slice_index words k) ≡ false) → t ≡ trailing_ones w64 word → IsLowestZero words (w * 64 + t)
zero_in_word words w word t fit within is has_zero full counted =
    let below : word + 1 < 2 ^ 64 = open_below word has_zero (rw is (fit w)) in
    let bits : (trailing_ones w64 word < 64) × (bit_at word (trailing_ones w64 word) ≡ 0)
    × ((i : ℕ) → i < trailing_ones w64 word → bit_at word i ≡ 1) = bit_at-trailing_ones w64 word below in rw counted record {
      inside = (let small : trailing_ones w64 word < 64 = bits.0 in omega arith);
      zero_there = zero_at words w (trailing_ones w64 word) word is bits.0 bits.1;
      set_below = λ k h. ones_below words w (trailing_ones w64 word) word k is bits.0 bits.2 full h;
    }

-- the first word with a zero, and its trailing ones
pub lowest_found : (words : List ℕ) (w t : ℕ)
    → AreWords words → Some w ≡ position is_open words → t ≡ trailing_ones w64 (slice_index words w) → IsLowestZero words (w * 64 + t)
lowest_found words w t fit found counted =
    let facts : (w < length words) × (is_open (get_or words w 0) ≡ true) × ((k : ℕ) → k < w → is_open (get_or words k 0) ≡ false) =
    position-Some is_open words w 0 (sym found) in zero_in_word words w (slice_index words w) t fit facts.0 refl facts.1 facts.2 counted

-- where the lowest zero is the bit of an address, that address is the least free one
pub zero_is_least : (words : List ℕ) (n bit address : ℕ)
    → IsLowestZero words bit → address ≡ bit + 1 → address ≤ n → IsLeastFree (taken_in words n) address
zero_is_least words n bit address lowest is within = record {
  has = (omega arith, omega (arith, length_taken words n));
  free = (let same : address - 1 ≡ bit = omega arith in rw (taken_at words n (address - 1) (omega arith), same, lowest.zero_there) refl);
  below = λ lower some h. rw (taken_at words n (lower - 1) (omega arith), lowest.set_below (lower - 1) (omega arith)) refl;
}

-- where it is beyond them, all addresses are taken
pub zero_is_beyond : (words : List ℕ) (n bit : ℕ) → IsLowestZero words bit → n ≤ bit → AreAllTaken (taken_in words n)
zero_is_beyond words n bit lowest beyond address has = let inside : address - 1 < n = omega (arith, length_taken words n) in
    rw (taken_at words n (address - 1) inside, lowest.set_below (address - 1) (omega arith)) refl

-- where no word has a zero, none is found, and the other way round
pub none_open : (words : List ℕ) → position is_open words ≡ None → AreFull words
none_open words none k within = elim (cases_Bool (nat_lt (position_or_len is_open words) (length words))) [
  | inl inside ↦ let some : position is_open words ≡ Some (position_or_len is_open words) = (rw inside refl) in cc
  | inr outside ↦ fails_before_first is_open words k 0 (omega (arith, ltb-false (position_or_len is_open words) (length words) outside))
]

pub some_open : (words : List ℕ) (w : ℕ) → Some w ≡ position is_open words → AreFull words → ⊥
some_open words w found full =
    let facts : (w < length words) × (is_open (get_or words w 0) ≡ true) × ((k : ℕ) → k < w → is_open (get_or words k 0) ≡ false) =
    position-Some is_open words w 0 (sym found) in true≢false (sym facts.1 ∙ full w facts.0)

-- where all words are full, all addresses are taken
pub full_is_taken : (words : List ℕ) (n : ℕ) → IsRoom words n → AreFull words → AreAllTaken (taken_in words n)
full_is_taken words n room full address has = let inside : address - 1 < n = omega (arith, length_taken words n) in
    let size : length words ≡ (n + 63) / 64 = room.size in
    let closed : is_open (slice_index words ((address - 1) / 64)) ≡ false = full ((address - 1) / 64) (omega arith) in
    rw (taken_at words n (address - 1) inside, full_bits (slice_index words ((address - 1) / 64)) ((address - 1) % 64) closed (omega arith)) refl

-- a free address, and all taken, are never both
pub not_both : (taken : List Bool) (address : ℕ) → IsLeastFree taken address → AreAllTaken taken → ⊥
not_both taken address least all = let here : IsTaken taken address = all address least.has in
    let free : IsFree taken address = least.free in clash (sym here ∙ free)
  where
    clash : Some true ≡ Some false → ⊥
    clash e = cc
