-- A field whose bytes stand in a longer text, or elsewhere in another one, and the bits of this many bytes.
use Rattle.std.{proofs.{Common.{◌≡◌, ℕ, zero, suc, ◌+◌, ◌*◌, ◌^◌, ◌<◌, ◌≤◌, List, ◌++◌, length, take, drop, refl, sym, ap, ◌∙◌, arith, length-drop}, lemmas.List.{drop-append-le, get_or-drop, take-append-le}, lemmas.Nat.{pow-add}}, specs.Prelude.{slice_index}}
use Rattle.{byteorder.specs.{Endian.{little_from, little_number}, Numbers.{little_from-take}}, df_base.specs.Fields.{field_at}}

-- what stands in a text stays where more comes after it
pub field_front : (n at : ℕ) (xs ys : List ℕ) → at + n ≤ length xs → field_at n at (xs ++ ys) ≡ field_at n at xs
unfolding field_at
field_front n at xs ys fits = let rest : List ℕ = drop at xs in
    let moved : drop at (xs ++ ys) ≡ rest ++ ys = drop-append-le at xs ys (omega arith) in
    let same : take n (rest ++ ys) ≡ take n rest = take-append-le n rest ys (omega (arith, length-drop at xs)) in
    ap (λ (l : List ℕ). little_number n l) moved ∙ sym (little_from-take 0 n n (rest ++ ys) (omega arith))
    ∙ ap (λ (l : List ℕ). little_number n l) same ∙ little_from-take 0 n n rest (omega arith)

-- a number whose bytes stand elsewhere too
pub field_moved : (n a b : ℕ) (xs ys : List ℕ)
    → ((j : ℕ) → j < n → slice_index xs (a + j) ≡ slice_index ys (b + j)) → field_at n a xs ≡ field_at n b ys
unfolding field_at
field_moved n a b xs ys same = from n 0 (λ j h. get_or-drop a xs j 0 ∙ same j (omega arith) ∙ sym (get_or-drop b ys j 0))
  where
    from : (m i : ℕ) → ((j : ℕ) → j < i + m → slice_index (drop a xs) j ≡ slice_index (drop b ys) j)
        → little_from i m (drop a xs) ≡ little_from i m (drop b ys)
    from zero i are = refl
    from (suc m) i are = let here = are i (omega arith) in let others = from m (suc i) (λ j h. are j (omega arith)) in
        rw (here, others) refl

-- a byte is eight bits
pub bits_of_bytes : (m : ℕ) → 2 ^ (8 * m) ≡ 256 ^ m
bits_of_bytes zero = refl
bits_of_bytes (suc m) = ap (λ (k : ℕ). 2 ^ k) (more m)
    ∙ pow-add 2 8 (8 * m) ∙ ap (λ (k : ℕ). 256 * k) (bits_of_bytes m) ∙ sym (pow-add 256 1 m) ∙ ap (λ (k : ℕ). 256 ^ k) (one m)
  where
    more : (m : ℕ) → 8 * suc m ≡ 8 + 8 * m
    more m = omega arith

    one : (m : ℕ) → 1 + m ≡ suc m
    one m = omega arith
