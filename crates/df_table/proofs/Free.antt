-- How many addresses are free: all but as many as entries hold.
use Rattle.std.{proofs.{Common.{◌≡◌, ℕ, zero, suc, ◌+◌, ◌<◌, ◌≤◌, ◌==◌, ◌||◌, not, Bool, true, false, if◌then◌else◌, cond, List, [], ◌∷◌, length, Some, refl, ap, arith, eqb-true, ne_eqb}, lemmas.List.FromFn.{length-range_with_len}}, specs.List.{filter, range_with_len}}
use Rattle.{df_theory.specs.Units.{Layout}, df_model.specs.{Blocks.{Blocks, addresses, free_in, is_held_in, sum_at}, Work.{is_known}}}

-- how many of these addresses a test holds of
abbrev pub one_if : Bool → ℕ
one_if true = 1
one_if false = 0

abbrev pub count : (ℕ → Bool) → List ℕ → ℕ
count p [] = 0
count p (x ∷ xs) = one_if (p x) + count p xs

-- the others are left
left_case : (b : Bool) (x n : ℕ) (rest xs : List ℕ)
    → length rest + n ≡ length xs → length (cond (not b) (x ∷ rest) rest) + (one_if b + n) ≡ length (x ∷ xs)
left_case true x n rest xs is = omega (arith, is)
left_case false x n rest xs is = omega (arith, is)

others_left : (p : ℕ → Bool) (xs : List ℕ) → length (filter (λ a. not (p a)) xs) + count p xs ≡ length xs
others_left p [] = refl
others_left p (x ∷ xs) = left_case (p x) x (count p xs) (filter (λ a. not (p a)) xs) xs (others_left p xs)

-- one test or another
either_case : (b c : Bool) (n l m : ℕ) → n ≤ l + m → one_if (b || c) + n ≤ (one_if b + l) + (one_if c + m)
either_case true true n l m is = omega (arith, is)
either_case true false n l m is = omega (arith, is)
either_case false true n l m is = omega (arith, is)
either_case false false n l m is = omega (arith, is)

either_few : (p q : ℕ → Bool) (xs : List ℕ) → count (λ a. p a || q a) xs ≤ count p xs + count q xs
either_few p q [] = omega arith
either_few p q (x ∷ xs) = either_case (p x) (q x) (count (λ a. p a || q a) xs) (count p xs) (count q xs) (either_few p q xs)

-- ---- entries

-- one address is one at most
none_here : (y s n : ℕ) → y < s → count (λ a. y == a) (range_with_len s n) ≡ 0
none_here y s zero below = refl
none_here y s (suc n) below = let first : one_if (y == s) ≡ 0 = ap one_if (ne_eqb y s (λ same. omega (arith, same, below))) in
    omega (arith, first, none_here y (s + 1) n (omega (arith, below)))

one_case : (b : Bool) (y s n : ℕ)
    → (y == s) ≡ b → count (λ a. y == a) (range_with_len (s + 1) n) ≤ 1 → one_if b + count (λ a. y == a) (range_with_len (s + 1) n) ≤ 1
one_case true y s n is rest = let none = none_here y (s + 1) n (omega (arith, eqb-true y s is)) in omega (arith, none)
one_case false y s n is rest = omega (arith, rest)

one_here : (y s n : ℕ) → count (λ a. y == a) (range_with_len s n) ≤ 1
one_here y s zero = omega arith
one_here y s (suc n) = one_case (y == s) y s n refl (one_here y (s + 1) n)

known_case : (b : Bool) (x : ℕ × ℕ) (xs : List (ℕ × ℕ)) (a n l m : ℕ)
    → n ≤ l + m → one_if (is_known (if b then Some x.1 else sum_at a xs)) + n ≤ (one_if b + l) + (one_if (is_known (sum_at a xs)) + m)
known_case true x xs a n l m is = omega (arith, is)
known_case false x xs a n l m is = omega (arith, is)

known_more : (x : ℕ × ℕ) (xs : List (ℕ × ℕ)) (held_at : List ℕ)
    → count (λ a. is_known (sum_at a (x ∷ xs))) held_at ≤ count (λ a. x.0 == a) held_at + count (λ a. is_known (sum_at a xs)) held_at
known_more x xs [] = omega arith
known_more x xs (a ∷ held_at) = known_case (x.0 == a) x xs a (count (λ a. is_known (sum_at a (x ∷ xs))) held_at)
    (count (λ a. x.0 == a) held_at) (count (λ a. is_known (sum_at a xs)) held_at) (known_more x xs held_at)

none_known : (held_at : List ℕ) → count (λ a. is_known (sum_at a [])) held_at ≡ 0
none_known [] = refl
none_known (a ∷ held_at) = omega (arith, none_known held_at)

-- no more of them than entries
pub known_few : (xs : List (ℕ × ℕ)) (s n : ℕ) → count (λ a. is_known (sum_at a xs)) (range_with_len s n) ≤ length xs
known_few [] s n = omega (arith, none_known (range_with_len s n))
known_few (x ∷ xs) s n = omega (arith, known_more x xs (range_with_len s n), one_here x.0 s n, known_few xs s n)

-- ---- what is free

abbrev idle : (live durable chain : List (ℕ × ℕ)) → Blocks
idle live durable chain = record { live = live; captured = []; written = []; left = []; durable = durable; chain = chain }

idle_free : (l : Layout) (live durable chain : List (ℕ × ℕ))
    → l.blocks ≤ length (free_in l (idle live durable chain)) + (length live + (length durable + length chain))
idle_free l live durable chain = let held = others_left (is_held_in (idle live durable chain)) (addresses l) in
    let both = either_few (λ a. is_known (sum_at a live)) (λ a. is_known (sum_at a durable) || is_known (sum_at a chain)) (addresses l) in
    let kept = either_few (λ a. is_known (sum_at a durable)) (λ a. is_known (sum_at a chain)) (addresses l) in
    omega (arith, held, both, kept, known_few live 1 l.blocks, known_few durable 1 l.blocks, known_few chain 1 l.blocks, length-range_with_len 1 l.blocks)

-- where no checkpoint runs, all addresses are free but those of live blocks, of the durable checkpoint's, and of its trailer's
pub enough_free : (l : Layout) (live captured written : List (ℕ × ℕ)) (left : List ℕ) (durable chain : List (ℕ × ℕ))
    → captured ≡ [] → written ≡ [] → left ≡ []
    → l.blocks ≤ length (free_in l (record { live = live; captured = captured; written = written; left = left; durable = durable; chain = chain })) + (length live + (length durable + length chain))
enough_free l live [] [] [] durable chain captured written left = idle_free l live durable chain
enough_free l live [] [] (a ∷ more) durable chain captured written left = absurd (cc)
enough_free l live [] (x ∷ xs) left durable chain captured written none = absurd (cc)
enough_free l live (x ∷ xs) written left durable chain captured none nothing = absurd (cc)
