-- Bits in words of 64: their bytes, and each of them as a bit of one number.
use Rattle.std.{proofs.{Common.{◌≡◌, ◌≢◌, ℕ, zero, suc, ◌+◌, ◌*◌, ◌/◌, ◌%◌, ◌^◌, ◌<◌, ◌==◌, List, ◌++◌, length, take, drop, get_or, set, nat_eq, refl, sym, ap, ◌∙◌, arith, inl, inr, bit_and}, lemmas.Nat.Bits.{shr_and_one, bit_at_cat_low}, lemmas.Nat.{le_bytes_8}, lemmas.Bool.{cases_eq}, lemmas.List.{get_or-set_same, get_or-set_other, length-set, take-append-le, take_all}}, specs.{Prelude.{slice_index}, Int.{bit_at, byte_at, bytes_low_first, to_le_bytes, from_le_bytes, w64}}}
use Rattle.df_base.{specs.Fields.{AreBytes}, proofs.Laws.{byte_at-lt}}
use Rattle.df_trailer.{specs.{Rooms.{bits_in_words, byte_in_words, byte_of_word}, Spelling.{listed}, Text.{bits_in}}, proofs.{Blocks.{length_listed}, BitBytes.{bit_behind, byte_done}, OneBit.{bit_found}}}

-- ---- the first values of a function, as a list

pub at_listed : {X : Type 0} (f : ℕ → X) (n i : ℕ) (d : X) → i < n → get_or (listed f n) i d ≡ f i
at_listed f zero i d within = absurd (omega arith)
at_listed f (suc n) zero d within = refl
at_listed f (suc n) (suc i) d within = at_listed (λ k. f (suc k)) n i d (omega arith)

pub bytes_listed : (f : ℕ → ℕ) (n : ℕ) → ((i : ℕ) → f i < 256) → AreBytes (listed f n)
bytes_listed f zero are i = omega arith
bytes_listed f (suc n) are zero = are 0
bytes_listed f (suc n) are (suc i) = bytes_listed (λ k. f (suc k)) n (λ k. are (suc k)) i

-- ---- the bytes of a word

low_first : (i n k x : ℕ) → k < n → slice_index (bytes_low_first i n x) k ≡ byte_at (i + k) x
low_first i zero k x within = absurd (omega arith)
low_first i (suc n) zero x within = ap (λ (j : ℕ). byte_at j x) (let none : i ≡ i + 0 = omega arith in none)
low_first i (suc n) (suc k) x within =
    low_first (suc i) n k x (omega arith) ∙ ap (λ (j : ℕ). byte_at j x) (let along : suc i + k ≡ i + suc k = omega arith in along)

low_first_small : (i n k x : ℕ) → slice_index (bytes_low_first i n x) k < 256
low_first_small i zero k x = omega arith
low_first_small i (suc n) zero x = byte_at-lt i x
low_first_small i (suc n) (suc k) x = low_first_small (suc i) n k x

pub byte_is : (word place : ℕ) → place < 8 → byte_of_word word place ≡ byte_at place word
byte_is word place within = low_first 0 8 place word within ∙ ap (λ (j : ℕ). byte_at j word) (let none : 0 + place ≡ place = omega arith in none)

pub bytes_of_word : (word : ℕ) → AreBytes (to_le_bytes w64 word)
bytes_of_word word i = low_first_small 0 8 i word

-- a bit of a byte of a word is a bit of the word
byte_bit : (word place bit : ℕ) → place < 8 → bit < 8 → bit_at (byte_of_word word place) bit ≡ bit_at word (8 * place + bit)
byte_bit word place bit within small = let y : ℕ = word / 256 ^ place in
    let byte : byte_of_word word place ≡ y % 256 = byte_is word place within ∙ sym (byte_done word place) in
    let whole : y / 256 * 2 ^ 8 + y % 256 ≡ y = omega arith in ap (λ (b : ℕ). bit_at b bit) byte
    ∙ sym (bit_at_cat_low (y / 256) 8 (y % 256) bit small) ∙ ap (λ (n : ℕ). bit_at n bit) whole ∙ bit_behind word place bit

-- ---- a byte changed

pub byte_set : (word place byte new : ℕ) → place < 8 → byte < 256
    → new ≡ from_le_bytes w64 (set (to_le_bytes w64 word) place byte) → to_le_bytes w64 new ≡ set (to_le_bytes w64 word) place byte
byte_set word place byte new within small is =
    le_bytes_8 (set (to_le_bytes w64 word) place byte) new (length-set (to_le_bytes w64 word) place byte) (λ i. fits i) is
  where
    fits : (i : ℕ) → get_or (set (to_le_bytes w64 word) place byte) i 0 < 256
    fits i = elim (cases_eq i place) [
      | inl same ↦ rw same (rw ((get_or-set_same (to_le_bytes w64 word) place byte 0 within)) small)
      | inr other ↦ rw (sym (get_or-set_other (to_le_bytes w64 word) place i byte 0 other)) at (bytes_of_word word i)
    ]

pub byte_there : (word place byte new : ℕ)
    → place < 8 → byte < 256 → new ≡ from_le_bytes w64 (set (to_le_bytes w64 word) place byte) → byte_of_word new place ≡ byte
byte_there word place byte new within small is = ap (λ (bs : List ℕ). slice_index bs place) (byte_set word place byte new within small is)
    ∙ get_or-set_same (to_le_bytes w64 word) place byte 0 within

pub byte_elsewhere : (word place byte new other : ℕ) → place < 8 → byte < 256
    → other ≢ place → new ≡ from_le_bytes w64 (set (to_le_bytes w64 word) place byte) → byte_of_word new other ≡ byte_of_word word other
byte_elsewhere word place byte new other within small apart is =
    ap (λ (bs : List ℕ). slice_index bs other) (byte_set word place byte new within small is)
    ∙ get_or-set_other (to_le_bytes w64 word) place other byte 0 apart

-- a byte of words of which one was changed
pub word_set : (words : List ℕ) (place new other : ℕ) → ((j : ℕ) → j < 8
    → j ≢ place % 8 → byte_of_word new j ≡ byte_of_word (slice_index words (place / 8)) j) → place < 8 * length words → other ≢ place
    → byte_in_words (set words (place / 8) new) other ≡ byte_in_words words other
word_set words place new other same within apart = elim (cases_eq (other / 8) (place / 8)) [
  | inl here ↦ let w : slice_index (set words (place / 8) new) (other / 8) ≡ new =
      ap (λ (i : ℕ). slice_index (set words (place / 8) new) i) here ∙ get_or-set_same words (place / 8) new 0 (omega arith) in
      let d : other % 8 ≢ place % 8 = λ e. apart (omega (arith, here, e)) in ap (λ (x : ℕ). byte_of_word x (other % 8)) w
      ∙ same (other % 8) (omega arith) d ∙ ap (λ (i : ℕ). byte_of_word (slice_index words i) (other % 8)) (sym here)
  | inr elsewhere ↦ ap (λ (x : ℕ). byte_of_word x (other % 8)) (get_or-set_other words (place / 8) (other / 8) new 0 elsewhere)
]

-- ---- a bit of the words is a bit of the number

pub bit_is : (words : List ℕ) (bytes place : ℕ)
    → place < 8 * bytes → bit_at (slice_index words (place / 64)) (place % 64) ≡ bit_at (bits_in_words bytes words) place
bit_is words bytes place within = let bs : List ℕ = listed (byte_in_words words) bytes in
    let n : length bs ≡ bytes = length_listed (byte_in_words words) bytes in
    let found : bit_at (slice_index bs (place / 8)) (place % 8) ≡ bit_at (bits_in bs) place = bit_found
    bs place (bytes_listed (byte_in_words words) bytes (λ i. low_first_small 0 8 (i % 8) (slice_index words (i / 8)))) (omega (arith, n)) in
    let there : slice_index bs (place / 8) ≡ byte_in_words words (place / 8) =
    at_listed (byte_in_words words) bytes (place / 8) 0 (omega arith) in
    let word : place / 8 / 8 ≡ place / 64 = omega arith in let bit : 8 * (place / 8 % 8) + place % 8 ≡ place % 64 = omega arith in
    sym (ap (λ (b : ℕ). bit_at b (place % 8)) there
    ∙ byte_bit (slice_index words (place / 8 / 8)) (place / 8 % 8) (place % 8) (omega arith) (omega arith)
    ∙ ap (λ (i : ℕ). bit_at (slice_index words i) (8 * (place / 8 % 8) + place % 8)) word
    ∙ ap (λ (b : ℕ). bit_at (slice_index words (place / 64)) b) bit) ∙ found

pub set_is : (words : List ℕ) (bytes place : ℕ) → place < 8 * bytes
    → nat_eq (bit_and (slice_index words (place / 64) / 2 ^ (place % 64)) 1) 1 ≡ (bit_at (bits_in_words bytes words) place == 1)
set_is words bytes place within =
    ap (λ (n : ℕ). nat_eq n 1) (shr_and_one (slice_index words (place / 64)) (place % 64) ∙ bit_is words bytes place within)

pub words_fit : (words : List ℕ) (bytes : ℕ) → AreBytes (listed (byte_in_words words) bytes)
words_fit words bytes = bytes_listed (byte_in_words words) bytes (λ i. low_first_small 0 8 (i % 8) (slice_index words (i / 8)))

-- ---- a vector whose slice was lent

pub lent_back : {X : Type 0} (n : ℕ) (xs ys : List X) → length xs ≡ n → take n (xs ++ drop (length xs) ys) ≡ xs
lent_back n xs ys size = take-append-le n xs (drop (length xs) ys) (omega arith) ∙ take_all n xs (omega arith)
