-- The bytes of bits, from the blocks that they stand for.
use Rattle.std.{proofs.{Common.{◌≡◌, ℕ, zero, suc, ◌+◌, ◌*◌, ◌/◌, ◌%◌, ◌^◌, ◌<◌, ◌≤◌, Bool, true, false, Option, Some, None, List, [], ◌∷◌, ◌++◌, length, get_or, refl, sym, ap, ◌∙◌, arith}, lemmas.Nat.{pow-add, mod-pow-add}, lemmas.Nat.Bits.{bit_at-suc, bit_at-zero}, Math.Nat.{div-div-eq-div-mul, div-one}}, specs.{Prelude.{map, if◌then◌else◌}, Int.{bit_at, byte_at, bytes_low_first}}}
use Rattle.{df_base.{specs.Fields.{spelled}, proofs.Laws.{bits_of_bytes}}, df_trailer.specs.Spelling.{is_referenced, number_of_bits}}

abbrev pub bit_for : Option ℕ → ℕ
bit_for (Some c) = 1
bit_for None = 0

first_bit : (b : Bool) (m : ℕ) → ((if b then 1 else 0) + 2 * m) / 1 % 2 ≡ (if b then 1 else 0)
first_bit true m = omega arith
first_bit false m = omega arith

pub half : (b : Bool) (m : ℕ) → ((if b then 1 else 0) + 2 * m) / 2 ≡ m
half true m = omega arith
half false m = omega arith

pub number_bit : (bs : List (Option ℕ)) (k : ℕ) → bit_at (number_of_bits (map is_referenced bs)) k ≡ bit_for (get_or bs k None)
number_bit [] k = bit_at-zero k
number_bit (None ∷ bs) zero = first_bit false (number_of_bits (map is_referenced bs))
number_bit (Some c ∷ bs) zero = first_bit true (number_of_bits (map is_referenced bs))
number_bit (None ∷ bs) (suc k) =
    bit_at-suc _ k ∙ ap (λ (x : ℕ). bit_at x k) (half false (number_of_bits (map is_referenced bs))) ∙ number_bit bs k
number_bit (Some c ∷ bs) (suc k) =
    bit_at-suc _ k ∙ ap (λ (x : ℕ). bit_at x k) (half true (number_of_bits (map is_referenced bs))) ∙ number_bit bs k

-- bit k of the bytes from number q on
pub bit_behind : (x q k : ℕ) → x / 256 ^ q / 2 ^ k % 2 ≡ bit_at x (8 * q + k)
bit_behind x q k = ap (λ (y : ℕ). y % 2) (div-div-eq-div-mul x (256 ^ q) (2 ^ k))
    ∙ ap (λ (p : ℕ). x / p % 2) (ap (λ (e : ℕ). e * 2 ^ k) (sym (bits_of_bytes q)) ∙ sym (pow-add 2 (8 * q) k))

pub byte_more : (x q k byte next bit : ℕ)
    → byte ≡ x / 256 ^ q % 2 ^ k → bit ≡ bit_at x (8 * q + k) → next ≡ byte + bit * 2 ^ k → next ≡ x / 256 ^ q % 2 ^ (k + 1)
byte_more x q k byte next bit before is now =
    let split : x / 256 ^ q % 2 ^ (1 + k) ≡ (x / 256 ^ q / 2 ^ k % 2 ^ 1) * 2 ^ k + x / 256 ^ q % 2 ^ k = mod-pow-add (x / 256 ^ q) 1 k in
    let turned : byte + bit * 2 ^ k ≡ bit * 2 ^ k + byte = omega arith in let up : 1 + k ≡ k + 1 = omega arith in
    now ∙ turned ∙ ap (λ (b : ℕ). b * 2 ^ k + byte) (is ∙ sym (bit_behind x q k)) ∙ ap (λ (r : ℕ). (x / 256 ^ q / 2 ^ k % 2) * 2 ^ k + r) before
    ∙ sym split ∙ ap (λ (e : ℕ). x / 256 ^ q % 2 ^ e) up

pub byte_done : (x q : ℕ) → x / 256 ^ q % 2 ^ 8 ≡ byte_at q x
byte_done x zero = ap (λ (y : ℕ). y % 256) (div-one x)
byte_done x (suc q) = refl

bytes_more : (i n x : ℕ) → bytes_low_first i (suc n) x ≡ bytes_low_first i n x ++ byte_at (i + n) x ∷ []
bytes_more i zero x = ap (λ (k : ℕ). byte_at k x ∷ []) (let none : i ≡ i + 0 = omega arith in none)
bytes_more i (suc n) x = let along : suc i + n ≡ i + suc n = omega arith in
    ap (λ (xs : List ℕ). byte_at i x ∷ xs) (bytes_more (suc i) n x ∙ ap (λ (k : ℕ). bytes_low_first (suc i) n x ++ byte_at k x ∷ []) along)

pub spelled_more : (n x : ℕ) → spelled (n + 1) x ≡ spelled n x ++ byte_at n x ∷ []
unfolding spelled
spelled_more n x = let up : n + 1 ≡ suc n = omega arith in let none : 0 + n ≡ n = omega arith in
    ap (λ (k : ℕ). bytes_low_first 0 k x) up ∙ bytes_more 0 n x ∙ ap (λ (k : ℕ). bytes_low_first 0 n x ++ byte_at k x ∷ []) none

pub spelled_none : (x : ℕ) → spelled 0 x ≡ []
unfolding spelled
spelled_none x = refl

pub past_end : (bs : List (Option ℕ)) (k : ℕ) → length bs ≤ k → get_or bs k None ≡ None
past_end [] k h = refl
past_end (b ∷ bs) zero h = absurd (omega arith)
past_end (b ∷ bs) (suc k) h = past_end bs k (omega arith)

pub shifted : (k r : ℕ) → r < 2 → k < 8 → r * 2 ^ k % 256 ≡ r * 2 ^ k
shifted zero r one within = omega arith
shifted (suc zero) r one within = omega arith
shifted (suc (suc zero)) r one within = omega arith
shifted (suc (suc (suc zero))) r one within = omega arith
shifted (suc (suc (suc (suc zero)))) r one within = omega arith
shifted (suc (suc (suc (suc (suc zero))))) r one within = omega arith
shifted (suc (suc (suc (suc (suc (suc zero)))))) r one within = omega arith
shifted (suc (suc (suc (suc (suc (suc (suc zero))))))) r one within = omega arith
shifted (suc (suc (suc (suc (suc (suc (suc (suc k)))))))) r one within = absurd (omega arith)
