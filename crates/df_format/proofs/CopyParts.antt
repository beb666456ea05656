-- Parts of a copy's sector: what a write of a number leaves after it, and which bytes are all zero.
use Rattle.std.{proofs.{Common.{inl, inr, ◌≡◌, ◌≤◌, ◌+◌, ◌-◌, ◌==◌, ◌&&◌, ℕ, zero, suc, Bool, not, List, [], ◌∷◌, ◌++◌, length, take, drop, replicate, Option, Some, None, cond, refl, sym, ◌∙◌, ap, arith, append_assoc, length-append}, lemmas.Bool.{cond-true, cond-false, le-ltb, ltb-false, eq-eqb, ne_eqb, not_from_true, not_from_false, cases_eq, cases_Bool}, lemmas.List.{drop-take, take-take, drop-replicate, take-replicate, length-drop, take-append-drop, drop-drop, drop_at, length-take-le, length-replicate}}, specs.{Prelude.{nat_lt, position, option_map}, List.{list_all, prefix_len}, Option.{option_or}, Str.{bytes_eq}}}
use Rattle.{df_base.{specs.Fields.{spelled, put_at}, proofs.Laws.{length-spelled}}, df_format.specs.Copies.{nonzero_between}}

-- all bytes are zero where they are as many zeros
pub all_zero : (bytes : List ℕ) (n : ℕ) → length bytes ≡ n → list_all (λ b. b == 0) bytes ≡ bytes_eq bytes (replicate n 0)
all_zero [] zero size = refl
all_zero [] (suc n) size = absurd (omega arith)
all_zero (x ∷ xs) zero size = absurd (omega arith)
all_zero (x ∷ xs) (suc n) size = ap (λ (b : Bool). (x == 0) && b) (all_zero xs n (omega arith))

-- what stands further after is the same too
pub further : (at n : ℕ) (one two : List ℕ) → drop at one ≡ drop at two → drop (at + n) one ≡ drop (at + n) two
further at n one two same = sym (drop-drop n at one) ∙ ap (λ (l : List ℕ). drop n l) same ∙ drop-drop n at two

-- a number that is written leaves what stands after it
pub number_rest : (at n x : ℕ) (old new : List ℕ) → at + n ≤ length old → new ≡ put_at n at x old → drop (at + n) new ≡ drop (at + n) old
number_rest at n x old new fits is = let size : length (take at old ++ spelled n x) ≡ at + n =
    length-append (take at old) (spelled n x) ∙ (λ i. length-take-le at old (omega arith) i + length-spelled n x i) in
    ap (λ (l : List ℕ). drop (at + n) l) (is ∙ sym (append_assoc (take at old) (spelled n x) (drop (at + n) old)))
    ∙ drop_at (take at old ++ spelled n x) (drop (at + n) old) (at + n) size

-- a list is its front and what stands after it
pub joined : (at : ℕ) (bytes front rest : List ℕ) → take at bytes ≡ front → drop at bytes ≡ rest → bytes ≡ front ++ rest
joined at bytes front rest before behind = sym (take-append-drop at bytes) ∙ (λ i. before i ++ behind i)

-- how many zeros stand in front
abbrev zeros_in : List ℕ → ℕ
zeros_in bytes = prefix_len (λ b. not (not (b == 0))) bytes

zeros_in-zeros : (n : ℕ) → zeros_in (replicate n 0) ≡ n
zeros_in-zeros zero = refl
zeros_in-zeros (suc n) = ap (λ (k : ℕ). 1 + k) (zeros_in-zeros n) ∙ omega arith

-- among zeros there is none that isn't
pub no_other : (n : ℕ) → position (λ b. not (b == 0)) (replicate n 0) ≡ None
no_other n = let zeros : List ℕ = replicate n 0 in let size : length zeros ≡ n = length-replicate {A = ℕ} n 0 in
    cond-false (nat_lt (zeros_in zeros) (length zeros))
    (Some (zeros_in zeros)) None (le-ltb (zeros_in zeros) (length zeros) (omega (arith, zeros_in-zeros n, size)))

-- one byte: zero, and so are those after it
zeros_behind : (x : ℕ) (xs : List ℕ) → length (x ∷ xs) ≤ zeros_in (x ∷ xs) → (x ≡ 0) × (length xs ≤ zeros_in xs)
zeros_behind x xs is = elim (cases_eq x 0) [
  | inl none ↦ let more : zeros_in (x ∷ xs) ≡ 1 + zeros_in xs =
      cond-true (not (not (x == 0))) _ _ (not_from_false _ (not_from_true _ (eq-eqb x 0 none))) in (none, omega (arith, more, is))
  | inr some ↦ let end : zeros_in (x ∷ xs) ≡ 0 =
      cond-false (not (not (x == 0))) (1 + zeros_in xs) 0 (not_from_true _ (not_from_false _ (ne_eqb x 0 some))) in
      absurd (omega (arith, end, is))
]

pub no_place : (o : Option ℕ) (n : ℕ) → option_map (λ i. n + i) o ≡ None → o ≡ None
no_place None n is = refl
no_place (Some i) n is = absurd (cc)

zeros_by : (n : ℕ) (bytes : List ℕ) → length bytes ≡ n → length bytes ≤ zeros_in bytes → bytes ≡ replicate n 0
zeros_by zero [] size is = refl
zeros_by zero (x ∷ xs) size is = absurd (omega arith)
zeros_by (suc n) [] size is = absurd (omega arith)
zeros_by (suc n) (x ∷ xs) size is = let both = zeros_behind x xs is in λ i. both.0 i ∷ zeros_by n xs (omega arith) both.1 i

pub unplaced : (n m : ℕ) → cond (nat_lt n m) (Some n) None ≡ None → m ≤ n
unplaced n m is = elim (cases_Bool (nat_lt n m)) [
  | inl less ↦ absurd (let found = sym (cond-true (nat_lt n m) (Some n) None less) ∙ is in cc)
  | inr more ↦ ltb-false n m more
]

-- this many bytes among which there is none that isn't zero
pub all_zeros : (at n : ℕ) (bytes : List ℕ)
    → length bytes ≡ n → option_map (λ i. at + i) (position (λ b. not (b == 0)) bytes) ≡ None → bytes ≡ replicate n 0
all_zeros at n bytes size none = zeros_by n bytes size (unplaced _ _ (no_place _ at none))

-- a part of a front is a part of the whole
part_of_front : (k n m : ℕ) (xs : List ℕ) → k + n ≤ m → take n (drop k (take m xs)) ≡ take n (drop k xs)
part_of_front k n m xs inside = let split : m ≡ k + (m - k) = omega arith in ap (λ (i : ℕ). take n (drop k (take i xs))) split
    ∙ ap (λ (l : List ℕ). take n l) (drop-take k (m - k) xs) ∙ take-take n (m - k) (drop k xs) (omega arith)

part_of_zeros : (k n m : ℕ) → k + n ≤ m → take {A = ℕ} n (drop k (replicate m 0)) ≡ replicate n 0
part_of_zeros k n m inside = ap (λ (l : List ℕ). take n l) (drop-replicate k m 0) ∙ take-replicate n (m - k) 0 (omega arith)

-- and any part of these is zeros
pub zeros_within : (at end a n : ℕ) (bytes : List ℕ)
    → at ≤ a → a + n ≤ end → end ≤ length bytes → nonzero_between at end bytes ≡ None → take n (drop a bytes) ≡ replicate n 0
zeros_within at end a n bytes before inside room none = let zeros = all_zeros at
    (end - at) (take (end - at) (drop at bytes)) (length-take-le (end - at) (drop at bytes) (omega (arith, length-drop at bytes))) none in
    let here : at + (a - at) ≡ a = omega arith in ap (λ (m : ℕ). take n (drop m bytes)) (sym here)
    ∙ ap (λ (l : List ℕ). take n l) (sym (drop-drop (a - at) at bytes))
    ∙ sym (part_of_front (a - at) n (end - at) (drop at bytes) (omega arith)) ∙ ap (λ (l : List ℕ). take n (drop (a - at) l)) zeros
    ∙ part_of_zeros (a - at) n (end - at) (omega arith)

-- a part of a sector that is zeros has none
pub nothing_between : (at end n : ℕ) (bytes : List ℕ) → take (end - at) (drop at bytes) ≡ replicate n 0 → nonzero_between at end bytes ≡ None
nothing_between at end n bytes zeros =
    ap (λ (o : Option ℕ). option_map (λ i. at + i) o) (ap (λ (l : List ℕ). position (λ b. not (b == 0)) l) zeros ∙ no_other n)

-- neither of two offsets is there
pub neither : (one other : Option ℕ) → option_or one other ≡ None → (one ≡ None) × (other ≡ None)
neither None other is = (refl, is)
neither (Some x) other is = absurd (cc)
