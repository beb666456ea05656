-- What a written bit makes of the words and of the list of taken addresses.
use Rattle.std.{proofs.{Common.{◌≡◌, ◌≢◌, ℕ, ◌*◌, ◌/◌, ◌%◌, ◌^◌, ◌<◌, Bool, true, false, inl, inr, Some, List, length, get_or, set, refl, ap, sym, ◌∙◌, arith}, lemmas.Bool.{cases_eq, eq-eqb}, lemmas.List.{get_or-set_same, get_or-set_other, length-set, length-replicate, get_or-replicate}, lemmas.List.FromFn.{length-map-range_with_len, get_or-map-range_with_len, fill_by_all}, lemmas.Option.{slice_get-get_or}, lemmas.Nat.{or_lt, and_le_l, mod_below, pow_pos}, lemmas.Nat.Bits.{bit_at-zero, bit_at_set_same, bit_at_set_other, bit_at_clear_same, bit_at_clear_other}}, specs.{Prelude.{◌==◌, slice_index, slice_get, replicate}, Int.{bit_at, bit_not, w64}}}
use Rattle.df_freeset.specs.Bits.{IsRoom, bit_in, taken_in, with_bit, without_bit, setting, clearing}

pub length_taken : (words : List ℕ) (n : ℕ) → length (taken_in words n) ≡ n
length_taken words n = length-map-range_with_len (bit_in words) 0 n

pub get_taken : (words : List ℕ) (n k : ℕ) (d : Bool) → k < n → get_or (taken_in words n) k d ≡ bit_in words k
get_taken words n k d within = get_or-map-range_with_len (bit_in words) 0 n k k d within (omega arith)

pub taken_at : (words : List ℕ) (n k : ℕ) → k < n → slice_get (taken_in words n) k ≡ Some (bit_in words k)
taken_at words n k within = slice_get-get_or (taken_in words n) k true (omega (arith, length_taken words n))
    ∙ ap (λ (b : Bool). Some b) (get_taken words n k true within)

-- the new words have this bit, and all others as before
pub record WritesBit (words new : List ℕ) (bit : ℕ) (value : Bool) : Type 0 where
  pub size : length new ≡ length words
  pub fit : (i : ℕ) → slice_index new i < 2 ^ 64
  pub there : bit_in new bit ≡ value
  pub others : (k : ℕ) → k ≢ bit → bit_in new k ≡ bit_in words k

-- the list of taken addresses has one place written
pub taken_written : (words new : List ℕ) (n bit : ℕ) (value : Bool)
    → bit < n → WritesBit words new bit value → taken_in new n ≡ set (taken_in words n) bit value
taken_written words new n bit value within writes = sym (fill_by_all
    (bit_in new) (set (taken_in words n) bit value) n true (length-set (taken_in words n) bit value ∙ length_taken words n) each)
  where
    each : (k : ℕ) → k < n → get_or (set (taken_in words n) bit value) k true ≡ bit_in new k
    each k h = elim (cases_eq k bit) [
      | inl same ↦ let inside : bit < length (taken_in words n) = omega (arith, length_taken words n) in
          rw (same, get_or-set_same (taken_in words n) bit value true inside) (sym writes.there)
      | inr other ↦ rw (get_or-set_other (taken_in words n) bit k value true other, get_taken words n k true h) (sym (writes.others k other))
    ]

pub room_written : (words new : List ℕ) (n bit : ℕ) (value : Bool) → bit < n → IsRoom words n → WritesBit words new bit value → IsRoom new n
room_written words new n bit value within room writes = record {
  size = writes.size ∙ room.size;
  small = room.small;
  words_fit = writes.fit;
  unused = λ k h. let other : k ≢ bit = omega arith in writes.others k other ∙ room.unused k h;
}

-- a word changed at one of its bits alone
record ChangesWord (old new b : ℕ) (value : Bool) : Type 0 where
  fits : new < 2 ^ 64
  there : (bit_at new b == 1) ≡ value
  others : (j : ℕ) → j < 64 → j ≢ b → bit_at new j ≡ bit_at old j

set_word : (word b : ℕ) → word < 2 ^ 64 → b < 64 → ChangesWord word (with_bit word b) b true
set_word word b fits within = record {
  fits = or_lt 64 word (1 * 2 ^ b % 2 ^ 64) fits (mod_below (1 * 2 ^ b) (2 ^ 64) (pow_pos 64));
  there = eq-eqb (bit_at (with_bit word b) b) 1 (bit_at_set_same w64 word b within);
  others = λ j h other. bit_at_set_other w64 word b within j other;
}

clear_word : (word b : ℕ) → word < 2 ^ 64 → b < 64 → ChangesWord word (without_bit word b) b false
clear_word word b fits within = let clear : bit_at (without_bit word b) b ≡ 0 = bit_at_clear_same w64 word b within in record {
  fits = omega (arith, and_le_l word (bit_not w64 (1 * 2 ^ b % 2 ^ 64)));
  there = rw clear refl;
  others = λ j h other. bit_at_clear_other w64 word b within j h other;
}

word_writes : (words : List ℕ) (bit new : ℕ) (value : Bool) → ((i : ℕ) → slice_index words i < 2 ^ 64) → bit / 64 < length words
    → ChangesWord (slice_index words (bit / 64)) new (bit % 64) value → WritesBit words (set words (bit / 64) new) bit value
word_writes words bit new value fit within changes = record {
  size = length-set words (bit / 64) new;
  fit = λ i. elim (cases_eq i (bit / 64)) [
    | inl same ↦ rw (same, get_or-set_same words (bit / 64) new 0 within) changes.fits
    | inr other ↦ rw (get_or-set_other words (bit / 64) i new 0 other) (fit i)
  ];
  there = rw (get_or-set_same words (bit / 64) new 0 within) changes.there;
  others = λ k other. elim (cases_eq (k / 64) (bit / 64)) [
    | inl same ↦ let column : k % 64 ≢ bit % 64 = omega arith in let small : k % 64 < 64 = omega arith in
        rw (same, get_or-set_same words (bit / 64) new 0 within, changes.others (k % 64) small column) refl
    | inr row ↦ rw (get_or-set_other words (bit / 64) (k / 64) new 0 row) refl
  ];
}

-- the word of a bit is there
pub word_inside : (words : List ℕ) (n bit : ℕ) → IsRoom words n → bit < n → bit / 64 < length words
word_inside words n bit room within = let size = room.size in omega arith

pub set_writes : (words : List ℕ) (n bit : ℕ) → IsRoom words n → bit < n → WritesBit words (setting words bit) bit true
set_writes words n bit room within = word_writes words bit _ true room.words_fit
    (word_inside words n bit room within) (set_word (slice_index words (bit / 64)) (bit % 64) (room.words_fit (bit / 64)) (omega arith))

pub clear_writes : (words : List ℕ) (n bit : ℕ) → IsRoom words n → bit < n → WritesBit words (clearing words bit) bit false
clear_writes words n bit room within = word_writes words bit _ false room.words_fit
    (word_inside words n bit room within) (clear_word (slice_index words (bit / 64)) (bit % 64) (room.words_fit (bit / 64)) (omega arith))

-- no bit of zeros is set
pub taken_zeros : (words : List ℕ) (n : ℕ) → ((i : ℕ) → slice_index words i ≡ 0) → taken_in words n ≡ replicate n false
taken_zeros words n zeros = sym (fill_by_all (bit_in words) (replicate n false) n true (length-replicate n false) (λ k h.
    get_or-replicate n k false true h ∙ sym (clear k)))
  where
    clear : (k : ℕ) → bit_in words k ≡ false
    clear k = rw (zeros (k / 64), bit_at-zero (k % 64)) refl
