-- The bytes of fields and checksums: how many they are, that each is below 256, and that a field's
-- bytes are those of the number that it reads as.
use Rattle.std.{proofs.{Common.{◌≡◌, ℕ, zero, suc, ◌+◌, ◌*◌, ◌/◌, ◌%◌, ◌^◌, ◌<◌, ◌≤◌, List, [], ◌∷◌, ◌++◌, length, take, drop, replicate, slice_index, refl, sym, ap, ◌∙◌, subst, arith, length-append, length-drop}, Math.Nat.{div-div-eq-div-mul, div-one, pow-succ'}, lemmas.List.{get_or-drop, length-take-le}}, specs.Int.{w32, byte_at, bytes_low_first, bytes_high_first, to_be_bytes}}
use Rattle.sha2.specs.Sha256.{sha256, digest_bytes, final_hash, initial_hash_256}
use Rattle.byteorder.specs.{Endian.{little_from, little_number}, Numbers.{little_from-cons, little_from-lt, little_from-take, length-bytes_low_first, little_number-reads_back}}
use Rattle.df_base.specs.Fields.{AreBytes, field_at, spelled, check_of}

pub AreBytes-nil : AreBytes []
AreBytes-nil i = omega arith

pub AreBytes-cons : (x : ℕ) (xs : List ℕ) → x < 256 → AreBytes xs → AreBytes (x ∷ xs)
AreBytes-cons x xs here there zero = here
AreBytes-cons x xs here there (suc i) = there i

pub AreBytes-append : (xs ys : List ℕ) → AreBytes xs → AreBytes ys → AreBytes (xs ++ ys)
AreBytes-append [] ys left right = right
AreBytes-append (x ∷ xs) ys left right = AreBytes-cons x (xs ++ ys) (left 0) (AreBytes-append xs ys (λ i. left (suc i)) right)

pub AreBytes-take : (n : ℕ) (xs : List ℕ) → AreBytes xs → AreBytes (take n xs)
AreBytes-take zero xs are = AreBytes-nil
AreBytes-take (suc n) [] are = AreBytes-nil
AreBytes-take (suc n) (x ∷ xs) are = AreBytes-cons x (take n xs) (are 0) (AreBytes-take n xs (λ i. are (suc i)))

pub AreBytes-drop : (n : ℕ) (xs : List ℕ) → AreBytes xs → AreBytes (drop n xs)
AreBytes-drop n xs are i = rw (get_or-drop n xs i 0) (are (n + i))

pub AreBytes-zeros : (n : ℕ) → AreBytes (replicate n 0)
AreBytes-zeros zero i = omega arith
AreBytes-zeros (suc n) zero = omega arith
AreBytes-zeros (suc n) (suc i) = AreBytes-zeros n i

pub byte_at-lt : (k x : ℕ) → byte_at k x < 256
byte_at-lt zero x = omega arith
byte_at-lt (suc k) x = omega arith

AreBytes-low_first : (i n x : ℕ) → AreBytes (bytes_low_first i n x)
AreBytes-low_first i zero x = AreBytes-nil
AreBytes-low_first i (suc n) x = AreBytes-cons (byte_at i x) (bytes_low_first (suc i) n x) (byte_at-lt i x) (AreBytes-low_first (suc i) n x)

AreBytes-high_first : (n x : ℕ) → AreBytes (bytes_high_first n x)
AreBytes-high_first zero x = AreBytes-nil
AreBytes-high_first (suc n) x = AreBytes-cons (byte_at n x) (bytes_high_first n x) (byte_at-lt n x) (AreBytes-high_first n x)

length-digest : (h : List ℕ) (n : ℕ) → length (digest_bytes h n) ≡ 4 * n
unfolding digest_bytes
length-digest h zero = refl
length-digest h (suc n) = omega (arith, length-digest h n, length-append (digest_bytes h n) (to_be_bytes w32 (slice_index h n)))

AreBytes-digest : (h : List ℕ) (n : ℕ) → AreBytes (digest_bytes h n)
unfolding digest_bytes
AreBytes-digest h zero = AreBytes-nil
AreBytes-digest h (suc n) =
    AreBytes-append (digest_bytes h n) (to_be_bytes w32 (slice_index h n)) (AreBytes-digest h n) (AreBytes-high_first 4 (slice_index h n))

pub length-check_of : (bytes : List ℕ) → length (check_of bytes) ≡ 16
unfolding check_of sha256
length-check_of bytes = let all = length-digest (final_hash initial_hash_256 bytes) 8 in
    length-take-le 16 (digest_bytes (final_hash initial_hash_256 bytes) 8) (omega arith)

-- a checksum's bytes are bytes
pub AreBytes-check_of : (bytes : List ℕ) → AreBytes (check_of bytes)
unfolding check_of sha256
AreBytes-check_of bytes =
    AreBytes-take 16 (digest_bytes (final_hash initial_hash_256 bytes) 8) (AreBytes-digest (final_hash initial_hash_256 bytes) 8)

pub length-spelled : (n x : ℕ) → length (spelled n x) ≡ n
unfolding spelled
length-spelled n x = length-bytes_low_first 0 n x

-- a number's bytes are bytes
pub AreBytes-spelled : (n x : ℕ) → AreBytes (spelled n x)
unfolding spelled
AreBytes-spelled n x = AreBytes-low_first 0 n x

-- a field reads as the number that was spelled there
pub field_spelled : (n at x : ℕ) (bytes rest : List ℕ) → drop at bytes ≡ spelled n x ++ rest → x < 256 ^ n → field_at n at bytes ≡ x
unfolding field_at spelled
field_spelled n at x bytes rest is fits = ap (λ (l : List ℕ). little_number n l) is ∙ little_number-reads_back n x rest fits

-- a field of n bytes reads as a number of n bytes
pub field_at-lt : (n at : ℕ) (bytes : List ℕ) → AreBytes bytes → field_at n at bytes < 256 ^ n
unfolding field_at
field_at-lt n at bytes are = little_from-lt 0 n (drop at bytes) (AreBytes-drop at bytes are)

byte_at-pow : (k x : ℕ) → byte_at k x ≡ x / 256 ^ k % 256
byte_at-pow zero x = ap (λ (y : ℕ). y % 256) (sym (div-one x))
byte_at-pow (suc k) x = refl

above : (x m : ℕ) → x < 256 → (x + 256 * m) / 256 ≡ m
above x m h = omega arith

below : (x m : ℕ) → x < 256 → (x + 256 * m) % 256 ≡ x
below x m h = omega arith

byte_at-up : (i x m : ℕ) → x < 256 → byte_at (suc i) (x + 256 * m) ≡ byte_at i m
byte_at-up i x m h = let p : 256 ^ suc i ≡ 256 * 256 ^ i = pow-succ' 256 i in byte_at-pow (suc i) (x + 256 * m)
    ∙ ap (λ (y : ℕ). (x + 256 * m) / y % 256) p ∙ ap (λ (y : ℕ). y % 256) (sym (div-div-eq-div-mul (x + 256 * m) 256 (256 ^ i)))
    ∙ ap (λ (y : ℕ). y / 256 ^ i % 256) (above x m h) ∙ sym (byte_at-pow i m)

bytes-up : (n i x m : ℕ) → x < 256 → bytes_low_first (suc i) n (x + 256 * m) ≡ bytes_low_first i n m
bytes-up zero i x m h = refl
bytes-up (suc n) i x m h = let a = byte_at-up i x m h in let b = bytes-up n (suc i) x m h in rw (a, b) refl

-- the n bytes of the number that n bytes read as are those bytes
back : (xs : List ℕ) → AreBytes xs → bytes_low_first 0 (length xs) (little_from 0 (length xs) xs) ≡ xs
back [] are = refl
back (x ∷ xs) are = let moved : little_from 1 (length xs) (x ∷ xs) ≡ little_from 0 (length xs) xs = little_from-cons 0 (length xs) x xs in
    let small : x < 256 = are 0 in let rest = back xs (λ i. are (suc i)) in let first = below x (little_from 0 (length xs) xs) small in
    let others = bytes-up (length xs) 0 x (little_from 0 (length xs) xs) small in rw (moved, first, others, rest) refl

back_of : (n : ℕ) (front : List ℕ) → length front ≡ n → AreBytes front → bytes_low_first 0 n (little_from 0 n front) ≡ front
back_of n front size are = subst (λ (m : ℕ). bytes_low_first 0 m (little_from 0 m front) ≡ front) size (back front are)

-- the bytes of the number that a field reads as are the field's bytes
pub spelled-field_at : (n at : ℕ) (bytes : List ℕ)
    → AreBytes bytes → at + n ≤ length bytes → spelled n (field_at n at bytes) ≡ take n (drop at bytes)
unfolding spelled field_at
spelled-field_at n at bytes are fits = let rest : List ℕ = drop at bytes in
    let size : length (take n rest) ≡ n = length-take-le n rest (omega (arith, length-drop at bytes)) in
    let read : little_from 0 n (take n rest) ≡ little_from 0 n rest = little_from-take 0 n n rest (omega arith) in
    ap (λ (x : ℕ). bytes_low_first 0 n x) (sym read) ∙ back_of n (take n rest) size (AreBytes-take n rest (AreBytes-drop at bytes are))
