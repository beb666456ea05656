-- The one spelling of a number, read from its front.
use Rattle.std.{proofs.{Common.{◌≡◌, ℕ, ◌+◌, ◌*◌, ◌/◌, ◌%◌, ◌^◌, ◌<◌, ◌≤◌, zero, suc, List, [], ◌∷◌, ◌++◌, ◌⊎◌, inl, inr, length, get_or, take, drop, refl, sym, subst, ap, ◌∙◌, append_assoc, add-one, arith}, lemmas.{Str.Parse.{digit_from_value}, Fmt.{decimal_is_IsNumeral_wide, decimal_step_wide, decimal_by_steps_wide, decimal_digit}}, Math.Seq.{split_at}}, specs.{Prelude.{decimal, Option, None, Some, IfSome, IfNone}, Option.{SomeIff}, Char.{digit_value}, Str.Parse.{AllDigits, digits_value_after}}}

pub below_wide : (n : ℕ) → n < 2 ^ 128 → n < 10 ^ 64
below_wide n fits = omega arith

after_append : (k : ℕ) (xs ys : List ℕ) → digits_value_after 10 k (xs ++ ys) ≡ digits_value_after 10 (digits_value_after 10 k xs) ys
after_append k [] ys = refl
after_append k (x ∷ xs) ys = after_append (k * 10 + digit_value x) xs ys

after_grows : (k : ℕ) (ys : List ℕ) → k ≤ digits_value_after 10 k ys
after_grows k [] = omega arith
after_grows k (y ∷ ys) = omega (arith, after_grows (k * 10 + digit_value y) ys)

digits_behind : (xs ys : List ℕ) → AllDigits 10 (xs ++ ys) → AllDigits 10 ys
digits_behind [] ys all = all
digits_behind (x ∷ xs) ys all = digits_behind xs ys all.1

pub value_of_decimal : (n : ℕ) → n < 2 ^ 128 → digits_value_after 10 0 (decimal n) ≡ n
value_of_decimal n fits = (decimal_is_IsNumeral_wide n (below_wide n fits)).1

pub one_number : (m n : ℕ) → m < 2 ^ 128 → n < 2 ^ 128 → decimal m ≡ decimal n → m ≡ n
one_number m n m_fits n_fits same =
    sym (value_of_decimal m m_fits) ∙ ap (λ (l : List ℕ). digits_value_after 10 0 l) same ∙ value_of_decimal n n_fits

-- what stands after the front of a spelling is a digit, and the number is as large as front and digit say
pub next_digit : (front byte n : ℕ) (rest : List ℕ) → front < 2 ^ 128
    → n < 2 ^ 128 → decimal front ++ byte ∷ rest ≡ decimal n → (digit_value byte < 10) × (front * 10 + digit_value byte ≤ n)
next_digit front byte n rest front_fits fits is = let numeral = decimal_is_IsNumeral_wide n (below_wide n fits) in
    let digits : AllDigits 10 (decimal front ++ byte ∷ rest) = rw is numeral.0.1 in
    let behind = digits_behind (decimal front) (byte ∷ rest) digits in
    let value : digits_value_after 10 0 (decimal front ++ byte ∷ rest) ≡ n =
    ap (λ (l : List ℕ). digits_value_after 10 0 l) is ∙ value_of_decimal n fits in
    let joined = after_append 0 (decimal front) (byte ∷ rest) in
    let front_value = ap (λ (k : ℕ). digits_value_after 10 k (byte ∷ rest)) (value_of_decimal front front_fits) in
    (behind.0, omega (arith, value, joined, front_value, after_grows (front * 10 + digit_value byte) rest))

digit_byte : (byte : ℕ) → digit_value byte < 10 → 48 + digit_value byte ≡ byte
digit_byte byte small = grind arith

-- a digit after the spelling of a number that isn't 0
pub with_digit_is : (front byte : ℕ) → 0 < front
    → front * 10 + digit_value byte < 2 ^ 128 → digit_value byte < 10 → decimal front ++ byte ∷ [] ≡ decimal (front * 10 + digit_value byte)
with_digit_is front byte some fits small = let tens : (front * 10 + digit_value byte) / 10 ≡ front = omega arith in
    let ones : (front * 10 + digit_value byte) % 10 ≡ digit_value byte = omega arith in let is = digit_byte byte small in
    sym (decimal_step_wide (front * 10 + digit_value byte) (omega arith) (below_wide _ fits) ∙ rw (tens, ones, is) refl)

-- a number that isn't 0 begins with no zero
abbrev BeginsHigh : ℕ → List ℕ → Type 0
BeginsHigh n digits = 0 < n → (0 < length digits) × (48 < get_or digits 0 0)

begins_more : (n : ℕ) (digits : List ℕ) → 10 ≤ n → BeginsHigh (n / 10) digits → BeginsHigh n (digits ++ ((48 + n % 10) ∷ []))
begins_more n [] large before some = absurd (omega (arith, (before (omega arith)).0))
begins_more n (d ∷ digits) large before some = (omega arith, (before (omega arith)).1)

begins_high : (n : ℕ) → n < 2 ^ 128 → BeginsHigh n (decimal n)
begins_high n fits = decimal_by_steps_wide BeginsHigh (λ m small some. (omega arith, omega arith)) begins_more n (below_wide n fits)

pub zero_is : decimal 0 ≡ 48 ∷ []
zero_is = decimal_digit 0 (omega arith)

-- the first byte of a spelling is a digit, and isn't a zero unless the number is 0
pub first_byte : (byte n : ℕ) (rest : List ℕ) → n < 2 ^ 128 → byte ∷ rest ≡ decimal n → (n ≡ 0) ⊎ ((48 < byte) × (byte ≤ 57))
first_byte byte zero rest fits is = inl refl
first_byte byte (suc n) rest fits is = let numeral = decimal_is_IsNumeral_wide (suc n) (below_wide (suc n) fits) in
    let digits : AllDigits 10 (byte ∷ rest) = rw (sym is) at numeral.0.1 in let range = digit_from_value byte digits.0 in
    let begins : 48 < get_or (byte ∷ rest) 0 0 = rw (sym is) at (begins_high (suc n) fits (omega arith)).1 in
    inr (begins, omega (arith, range))

pub none_spells_nothing : (digits : List ℕ) (n : ℕ) → n < 2 ^ 128 → length digits ≡ 0 → digits ≡ decimal n → ⊥
none_spells_nothing digits n fits none is = omega (arith, (decimal_is_IsNumeral_wide n (below_wide n fits)).0.0, ap length is)

pub some_from_iff : (r : Option ℕ) (P : Type 0) (v : ℕ) (Q : ℕ → Type 0) → SomeIff r P v → (P → Q v) → IfSome r Q
some_from_iff None P v Q iff then = tt
some_from_iff (Some x) P v Q iff then = subst Q (sym iff.1) (then iff.0)

pub none_from_iff : (r : Option ℕ) (P : Type 0) (v : ℕ) (Q : Type 0) → SomeIff r P v → ((P → ⊥) → Q) → IfNone r Q
none_from_iff None P v Q iff then = then iff
none_from_iff (Some x) P v Q iff then = tt

-- some digits were read, and this one is next
pub walk : (front value i n : ℕ) (digits : List ℕ) → i < length digits → decimal front ++ take i digits ≡ decimal value
    → decimal front ++ digits ≡ decimal n → decimal value ++ (get_or digits i 0 ∷ drop (i + 1) digits) ≡ decimal n
walk front value i n digits within so_far is = rw (← so_far, append_assoc, add-one, ← split_at digits i 0 within) is

pub sum_is : (front byte tens ones : ℕ) → 0 < front → tens ≡ front * 10
    → ones ≡ digit_value byte → tens + ones < 2 ^ 128 → digit_value byte < 10 → decimal front ++ byte ∷ [] ≡ decimal (tens + ones)
sum_is front byte tens ones some tens_is ones_is fits small = with_digit_is front byte some (omega arith) small ∙ ap decimal (omega arith)
