-- The first element that passes a test, in a list that is two.
use Rattle.std.{proofs.{Common.{◌≡◌, ℕ, suc, ◌+◌, ◌-◌, ◌^◌, ◌<◌, ◌≤◌, Bool, true, false, not, cond, nat_lt, eqb, List, [], ◌∷◌, ◌++◌, length, get_or, take, drop, refl, sym, ap, ◌∙◌, arith, length-append, length-drop, eqb-true}, lemmas.List.{take_at, take_all}, Math.Seq.{drop-append-add}, lemmas.Bool.{eqb-true}, lemmas.List.Sums.{split_at_first, passes_at_first}, lemmas.Str.Parse.{digit_from_value}, lemmas.Fmt.{decimal_is_IsNumeral_wide}, lemmas.Bool.Decides.{nat_tests}}, specs.{Prelude.{None, Some, decimal}, List.{before_first, after_first, position_or_len, position}, Char.{digit_value}, Str.Parse.{AllDigits}}}
use borrow.Author.Tests.{ltb-true}
use Rattle.df_lines.{specs.Words.{is_space, space_in, HasNoSpace, Cuts}, proofs.Decimals.{below_wide}}

head_fails : (b : Bool) (m n : ℕ) → cond (not b) (1 + m) 0 ≡ suc n → (b ≡ false) × (m ≡ n)
head_fails true m n h = absurd (omega arith)
head_fails false m n h = (refl, omega arith)

-- past a list where none passes
pub position_past : (p : ℕ → Bool) (a b : List ℕ)
    → position_or_len p a ≡ length a → position_or_len p (a ++ b) ≡ length a + position_or_len p b
position_past p [] b none = omega arith
position_past p (x ∷ a) b none = let head = head_fails (p x) (position_or_len p a) (length a) none in
    rw head.0 (omega (arith, position_past p a b head.1))

within_step : (passes : Bool) (m m' n : ℕ)
    → (m < n → m' ≡ m) → cond (not passes) (1 + m) 0 < suc n → cond (not passes) (1 + m') 0 ≡ cond (not passes) (1 + m) 0
within_step true m m' n same within = refl
within_step false m m' n same within = omega (arith, same (omega arith))

-- within a list where one passes
pub position_within : (p : ℕ → Bool) (a b : List ℕ) → position_or_len p a < length a → position_or_len p (a ++ b) ≡ position_or_len p a
position_within p [] b within = absurd (omega arith)
position_within p (x ∷ a) b within =
    within_step (p x) (position_or_len p a) (position_or_len p (a ++ b)) (length a) (position_within p a b) within

le_step : (passes : Bool) (m n : ℕ) → m ≤ n → cond (not passes) (1 + m) 0 ≤ suc n
le_step true m n le = omega arith
le_step false m n le = omega arith

pub position_le : (p : ℕ → Bool) (xs : List ℕ) → position_or_len p xs ≤ length xs
position_le p [] = omega arith
position_le p (x ∷ xs) = le_step (p x) (position_or_len p xs) (length xs) (position_le p xs)

some_test : (b : Bool) (x y : ℕ) → cond b (Some x) None ≡ Some y → (b ≡ true) × (x ≡ y)
some_test true x y h = (refl, cc h)
some_test false x y h = cc h

none_test : (m n : ℕ) → m ≤ n → cond (nat_lt m n) (Some m) None ≡ None → m ≡ n
none_test m n le h = grind (arith, nat_tests)

pub position_none : (p : ℕ → Bool) (xs : List ℕ) → position p xs ≡ None → position_or_len p xs ≡ length xs
position_none p xs none = none_test (position_or_len p xs) (length xs) (position_le p xs) none

pub position_some : (p : ℕ → Bool) (xs : List ℕ) (at : ℕ) → position p xs ≡ Some at → (position_or_len p xs ≡ at) × (at < length xs)
position_some p xs at some = let parts = some_test (nat_lt (position_or_len p xs) (length xs)) (position_or_len p xs) at some in
    (parts.1, omega (arith, parts.1, ltb-true (position_or_len p xs) (length xs) parts.0))

-- ---- words

-- the byte 32 isn't a digit
digit_no_space : (c : ℕ) → digit_value c < 10 → is_space c ≡ false
digit_no_space c small = let range = digit_from_value c small in grind (arith, nat_tests, range)

digits_no_space : (ds : List ℕ) → AllDigits 10 ds → HasNoSpace ds
digits_no_space [] all = refl
digits_no_space (d ∷ ds) all = let no : eqb d 32 ≡ false = digit_no_space d all.0 in rw no (omega (arith, digits_no_space ds all.1))

pub decimal_no_space : (n : ℕ) → n < 2 ^ 128 → HasNoSpace (decimal n)
decimal_no_space n fits = digits_no_space (decimal n) (decimal_is_IsNumeral_wide n (below_wide n fits)).0.1

space_at : (a b : List ℕ) → HasNoSpace a → position_or_len is_space (a ++ (32 ∷ b)) ≡ length a
space_at a b none = omega (arith, position_past is_space a (32 ∷ b) none)

-- a line with a space has one
pub no_cut : (line a b : List ℕ) → HasNoSpace line → line ≡ a ++ (32 ∷ b) → HasNoSpace a → ⊥
no_cut line a b none is front = let at : position_or_len is_space line ≡ length a = ap (position_or_len is_space) is ∙ space_at a b front in
    omega (arith, none, at, ap length is, length-append a (32 ∷ b))

-- a line is cut in one way
pub one_cut : (line before after a b : List ℕ) → Cuts line before after → line ≡ a ++ (32 ∷ b) → HasNoSpace a → (before ≡ a) × (after ≡ b)
one_cut line before after a b cuts is front = let at = space_at a b front in (
  cuts.front ∙ ap (before_first is_space) is ∙ ap (λ (n : ℕ). take n (a ++ (32 ∷ b))) at ∙ take_at a (32 ∷ b) (length a) refl,
  cuts.rest ∙ ap (after_first is_space) is ∙ ap (λ (n : ℕ). drop (n + 1) (a ++ (32 ∷ b))) at ∙ drop-append-add a (32 ∷ b) 1,
)

pub cut_is : (line : List ℕ) (at : ℕ) → space_in line ≡ Some at → Cuts line (take at line) (take (length line - (at + 1)) (drop (at + 1) line))
cut_is line at some = let found = position_some is_space line at some in
    let within : position_or_len is_space line < length line = omega (arith, found) in
    let passes : eqb (get_or line (position_or_len is_space line) 0) 32 ≡ true = passes_at_first is_space line 0 within in
    let space = eqb-true _ _ passes in let whole : line ≡ before_first is_space line ++ (32 ∷ after_first is_space line) =
    split_at_first is_space line 0 within ∙ ap (λ (b : ℕ). before_first is_space line ++ (b ∷ after_first is_space line)) space in
    let front : take at line ≡ before_first is_space line = ap (λ (n : ℕ). take n line) (sym found.0) in
    let rest : take (length line - (at + 1)) (drop (at + 1) line) ≡ after_first is_space line =
    take_all (length line - (at + 1)) (drop (at + 1) line) (omega (arith, length-drop (at + 1) line))
    ∙ ap (λ (n : ℕ). drop (n + 1) line) (sym found.0) in record {
      whole = whole ∙ ap (λ (l : List ℕ). l ++ (32 ∷ after_first is_space line)) (sym front)
          ∙ ap (λ (l : List ℕ). take at line ++ (32 ∷ l)) (sym rest);
      front = front;
      rest = rest;
    }

pub cuts_itself : (a b : List ℕ) → HasNoSpace a → Cuts (a ++ (32 ∷ b)) a b
cuts_itself a b front = let at = space_at a b front in record {
  whole = refl;
  front = sym (ap (λ (n : ℕ). take n (a ++ (32 ∷ b))) at ∙ take_at a (32 ∷ b) (length a) refl);
  rest = sym (ap (λ (n : ℕ). drop (n + 1) (a ++ (32 ∷ b))) at ∙ drop-append-add a (32 ∷ b) 1);
}

pub one_split : (a b x y : List ℕ) → HasNoSpace a → HasNoSpace x → a ++ (32 ∷ b) ≡ x ++ (32 ∷ y) → (a ≡ x) × (b ≡ y)
one_split a b x y one other same = one_cut (a ++ (32 ∷ b)) a b x y (cuts_itself a b one) same other
