-- The summary has a bit for each word, set exactly where the word is full, whatever is taken and given back.
use Rattle.std.{proofs.{Common.{◌≡◌, ◌≢◌, ℕ, ◌+◌, ◌*◌, ◌/◌, ◌%◌, ◌^◌, ◌<◌, ◌≤◌, Bool, true, false, inl, inr, List, length, set, refl, ap, sym, ◌∙◌, arith, true≢false}, lemmas.Bool.{cases_Bool, cases_eq, eqb-true, eq-eqb, ne_eqb}, lemmas.List.{get_or-set_same, get_or-set_other, length-set}, lemmas.Nat.{le_or_l, or_lt, mod_below, pow_pos}, lemmas.Nat.Bits.{bit_at_clear_same}}, specs.{Prelude.{◌==◌, not, slice_index}, Int.{bit_at, trailing_ones, w64}}}
use Rattle.df_freeset.{specs.{Addresses.{AreAllTaken}, Bits.{IsRoom, IsFreeSet, AreFull, IsLowestZero, is_open, bit_in, taken_in, with_bit, without_bit, setting, clearing}}, proofs.{Least.{full_bits, full_is_taken, zero_in_word}, Words.{room_written, set_writes, clear_writes, word_inside}}}

-- one word is written, and its bit of the summary tells of it
kept : (words summary tells : List ℕ) (n w word : ℕ)
    → w < length words → IsFreeSet words summary n → IsRoom (set words w word) n → IsRoom tells (length words)
    → bit_in tells w ≡ not (is_open word) → ((i : ℕ) → i ≢ w → bit_in tells i ≡ bit_in summary i) → IsFreeSet (set words w word) tells n
kept words summary tells n w word within old room tells_room there others = record {
  room = room;
  summary_room = rw (length-set words w word) tells_room;
  full = λ i. elim (cases_eq i w) [
    | inl same ↦ rw (same, get_or-set_same words w word 0 within) there
    | inr other ↦ rw (get_or-set_other words w i word 0 other) (others i other ∙ old.full i)
  ];
}

-- the word of a bit has its own bit in the summary
pub summary_inside : (words summary : List ℕ) (n bit : ℕ) → IsFreeSet words summary n → bit < n → bit / 64 / 64 < length summary
summary_inside words summary n bit old within =
    word_inside summary (length words) (bit / 64) old.summary_room (word_inside words n bit old.room within)

-- a word that its bit fills is told by the summary
pub fills : (words summary : List ℕ) (n bit : ℕ)
    → IsFreeSet words summary n → bit < n → slice_index (setting words bit) (bit / 64) ≡ 18446744073709551615
    → IsFreeSet (setting words bit) (setting summary (bit / 64)) n
fills words summary n bit old within full = let row : bit / 64 < length words = word_inside words n bit old.room within in
    let word : ℕ = with_bit (slice_index words (bit / 64)) (bit % 64) in
    let most : word ≡ 18446744073709551615 = (rw (get_or-set_same words (bit / 64) word 0 row) at full) in
    let closed : is_open word ≡ false = (rw (eq-eqb word 18446744073709551615 most) refl) in
    let writes = set_writes summary (length words) (bit / 64) old.summary_room row in
    kept words summary (setting summary (bit / 64)) n (bit / 64) word row old
    (room_written words (setting words bit) n bit true within old.room (set_writes words n bit old.room within))
    (room_written summary (setting summary (bit / 64)) (length words) (bit / 64) true row old.summary_room writes)
    (rw closed writes.there) writes.others

-- one that has a zero left had one before
stays_open : (word b : ℕ) → word < 2 ^ 64 → is_open (with_bit word b) ≡ true → is_open word ≡ true
stays_open word b fits has_zero = elim (cases_Bool (word == 18446744073709551615)) [
  | inl same ↦ let most : word ≡ 18446744073709551615 = eqb-true word 18446744073709551615 same in
      let fits_still : with_bit word b < 2 ^ 64 = or_lt 64 word (1 * 2 ^ b % 2 ^ 64) fits (mod_below (1 * 2 ^ b) (2 ^ 64) (pow_pos 64)) in
      let still : with_bit word b ≡ 18446744073709551615 = omega (arith, most, fits_still, le_or_l word (1 * 2 ^ b % 2 ^ 64)) in
      let closed : is_open (with_bit word b) ≡ false = (rw (eq-eqb (with_bit word b) 18446744073709551615 still) refl) in
      absurd (true≢false (sym has_zero ∙ closed))
  | inr other ↦ rw other refl
]

pub leaves_open : (words summary : List ℕ) (n bit : ℕ)
    → IsFreeSet words summary n → bit < n → slice_index (setting words bit) (bit / 64) ≢ 18446744073709551615
    → IsFreeSet (setting words bit) summary n
leaves_open words summary n bit old within less = let row : bit / 64 < length words = word_inside words n bit old.room within in
    let word : ℕ = with_bit (slice_index words (bit / 64)) (bit % 64) in
    let other : word ≢ 18446744073709551615 = (rw (get_or-set_same words (bit / 64) word 0 row) at less) in
    let after : is_open word ≡ true = (rw (ne_eqb word 18446744073709551615 other) refl) in
    let before : is_open (slice_index words (bit / 64)) ≡ true =
    stays_open (slice_index words (bit / 64)) (bit % 64) (old.room.words_fit (bit / 64)) after in
    kept words summary summary n (bit / 64) word row old
    (room_written words (setting words bit) n bit true within old.room (set_writes words n bit old.room within)) old.summary_room
    (old.full (bit / 64) ∙ ap not (before ∙ sym after)) (λ i other. refl)

-- one whose bit is cleared has a zero
opens : (word b : ℕ) → b < 64 → is_open (without_bit word b) ≡ true
opens word b within = elim (cases_Bool (is_open (without_bit word b))) [
  | inl has_zero ↦ has_zero
  | inr closed ↦ let clear : bit_at (without_bit word b) b ≡ 0 = bit_at_clear_same w64 word b within in
      let there : (bit_at (without_bit word b) b == 1) ≡ true = full_bits (without_bit word b) b closed within in
      absurd (true≢false (sym there ∙ (rw clear refl)))
]

pub empties : (words summary : List ℕ) (n bit : ℕ)
    → IsFreeSet words summary n → bit < n → IsFreeSet (clearing words bit) (clearing summary (bit / 64)) n
empties words summary n bit old within = let row : bit / 64 < length words = word_inside words n bit old.room within in
    let writes = clear_writes summary (length words) (bit / 64) old.summary_room row in
    let has_zero = opens (slice_index words (bit / 64)) (bit % 64) (omega arith) in
    kept words summary (clearing summary (bit / 64)) n (bit / 64) (without_bit (slice_index words (bit / 64)) (bit % 64)) row old
    (room_written words (clearing words bit) n bit false within old.room (clear_writes words n bit old.room within))
    (room_written summary (clearing summary (bit / 64)) (length words) (bit / 64) false row old.summary_room writes)
    (rw has_zero writes.there) writes.others

bool_of : (a b : Bool) → not a ≡ not b → a ≡ b
bool_of true true e = refl
bool_of true false e = cc
bool_of false true e = cc
bool_of false false e = refl

told : (words summary : List ℕ) (n i : ℕ) (b : Bool) → IsFreeSet words summary n → bit_in summary i ≡ not b → is_open (slice_index words i) ≡ b
told words summary n i true old bit = bool_of (is_open (slice_index words i)) true (sym (old.full i) ∙ bit)
told words summary n i false old bit = bool_of (is_open (slice_index words i)) false (sym (old.full i) ∙ bit)

-- where the summary is full, all addresses are taken
pub summary_full : (words summary : List ℕ) (n : ℕ) → IsFreeSet words summary n → AreFull summary → AreAllTaken (taken_in words n)
summary_full words summary n old full = let size : length summary ≡ (length words + 63) / 64 = old.summary_room.size in
    full_is_taken words n old.room (λ i h.
    told words summary n i false old (full_bits (slice_index summary (i / 64)) (i % 64) (full (i / 64) (omega arith)) (omega arith)))

-- where its lowest zero is beyond the words, they are too
pub summary_beyond : (words summary : List ℕ) (n w : ℕ)
    → IsFreeSet words summary n → IsLowestZero summary w → length words ≤ w → AreAllTaken (taken_in words n)
summary_beyond words summary n w old lowest beyond =
    full_is_taken words n old.room (λ i h. told words summary n i false old (lowest.set_below i (omega arith)))

-- its lowest zero is the first word that has one
pub summary_lowest : (words summary : List ℕ) (n w word t : ℕ)
    → IsFreeSet words summary n → IsLowestZero summary w → w < length words → word ≡ slice_index words w → t ≡ trailing_ones w64 word
    → IsLowestZero words (w * 64 + t)
summary_lowest words summary n w word t old lowest within is counted =
    zero_in_word words w word t old.room.words_fit within is (rw is (told words summary n w true old lowest.zero_there))
    (λ k h. told words summary n k false old (lowest.set_below k h)) counted
