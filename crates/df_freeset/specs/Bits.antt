-- Bits in words of 64, from the lowest bit of the first word on.
use Rattle.std.specs.{Prelude.{◌≡◌, ℕ, ◌+◌, ◌/◌, ◌%◌, ◌^◌, ◌*◌, ◌<◌, ◌≤◌, Bool, true, false, ◌==◌, List, length, map, slice_index, slice_set, not, bit_and, bit_or}, Int.{bit_at, bit_not, w64}}
use Rattle.std.specs.List.{range_with_len}

-- the word has a zero
abbrev pub is_open : ℕ → Bool
is_open word = not (word == 18446744073709551615)

-- a word with its bit k set, and with it cleared
abbrev pub with_bit : ℕ → ℕ → ℕ
with_bit word k = bit_or word (1 * 2 ^ k % 2 ^ 64)

abbrev pub without_bit : ℕ → ℕ → ℕ
without_bit word k = bit_and word (bit_not w64 (1 * 2 ^ k % 2 ^ 64))

-- the words with bit k set, and with it cleared
abbrev pub setting : List ℕ → ℕ → List ℕ
setting words k = slice_set words (k / 64) (with_bit (slice_index words (k / 64)) (k % 64))

abbrev pub clearing : List ℕ → ℕ → List ℕ
clearing words k = slice_set words (k / 64) (without_bit (slice_index words (k / 64)) (k % 64))

-- bit k of the words is set
abbrev pub bit_in : List ℕ → ℕ → Bool
bit_in words k = bit_at (slice_index words (k / 64)) (k % 64) == 1

-- the first n bits
abbrev pub taken_in : List ℕ → ℕ → List Bool
taken_in words n = map (bit_in words) (range_with_len 0 n)

-- each word has 64 bits
abbrev pub AreWords : List ℕ → Type 0
AreWords words = (i : ℕ) → slice_index words i < 2 ^ 64

-- no word has a zero
abbrev pub AreFull : List ℕ → Type 0
AreFull words = (i : ℕ) → i < length words → is_open (slice_index words i) ≡ false

-- bit k is one of the words', isn't set, and each below it is
pub record IsLowestZero (words : List ℕ) (k : ℕ) : Type 0 where
  pub inside : k / 64 < length words
  pub zero_there : bit_in words k ≡ false
  pub set_below : (i : ℕ) → i < k → bit_in words i ≡ true

-- as many words as n bits need, with no bit set beyond these
pub record IsRoom (words : List ℕ) (n : ℕ) : Type 0 where
  pub size : length words ≡ (n + 63) / 64
  pub small : n < 2 ^ 32
  pub words_fit : AreWords words
  pub unused : (k : ℕ) → n ≤ k → bit_in words k ≡ false

-- the words of n addresses, and a summary that has a bit for each word, set exactly where the word is full
pub record IsFreeSet (words summary : List ℕ) (n : ℕ) : Type 0 where
  pub room : IsRoom words n
  pub summary_room : IsRoom summary (length words)
  pub full : (i : ℕ) → bit_in summary i ≡ not (is_open (slice_index words i))
