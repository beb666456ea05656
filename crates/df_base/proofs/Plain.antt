-- Plain facts on tests, numbers, options and lists that several crates cite, and that std's lemmas don't have.
use Rattle.std.{proofs.{Common.{◌≡◌, ◌≢◌, ◌⊎◌, inl, inr, ℕ, zero, suc, ◌+◌, ◌*◌, ◌/◌, ◌%◌, ◌<◌, ◌==◌, ◌&&◌, not, nat_lt, Bool, true, false, cond, List, [], ◌∷◌, length, get_or, set, position, Option, Some, None, refl, ap, arith, ltb-false, ◌||◌, sym, ◌-◌, ◌++◌, take, drop, ◌∙◌}, lemmas.Bool.{cases_Bool}, lemmas.Bool.Decides.{nat_tests}, lemmas.List.Sums.{fails_before_first}, lemmas.List.{take_at, drop_at}}, specs.{List.{position_or_len, slice_get}, Prelude.{IsTrue}}}

-- ---- tests

pub and_false : (a b : Bool) → (a && b) ≡ false → a ≡ true → b ≡ false
and_false true b is one = is
and_false false b is one = absurd (cc)

pub same_test : (a b : ℕ) → (a == b) ≡ (b == a)
same_test a b = grind (arith, nat_tests)

pub or_false : (b : Bool) → (b || false) ≡ b
or_false true = refl
or_false false = refl

-- tests that pass together are one
pub same_bit : (a b : Bool) → (IsTrue a → IsTrue b) → (IsTrue b → IsTrue a) → a ≡ b
same_bit true true one other = refl
same_bit true false one other = sym (one refl)
same_bit false true one other = other refl
same_bit false false one other = refl

pub not_zero : (n : ℕ) → 0 < n → not (n == 0) ≡ true
not_zero n some = grind (arith, nat_tests)

pub either_same : (A : Type 0) → A ⊎ A → A
either_same A (inl a) = a
either_same A (inr a) = a

-- what is there under a test
pub cond_there : {X : Type 0} (b : Bool) (o : Option X) (x : X) → cond b o None ≡ Some x → (b ≡ true) × (o ≡ Some x)
cond_there true o x is = (refl, is)
cond_there false o x is = absurd (cc)

-- ---- what is in an option

pub one_some : {X : Type 0} (o : Option X) (x y : X) → o ≡ Some x → o ≡ Some y → x ≡ y
one_some o x y one two = let both : Some x ≡ Some y = sym one ∙ two in cc

pub no_some : {X : Type 0} (o : Option X) → ((x : X) → o ≡ Some x → ⊥) → o ≡ None
no_some None never = refl
no_some (Some x) never = absurd (never x refl)

-- ---- numbers

pub zero_plus : (n : ℕ) → 0 + n ≡ n
zero_plus n = omega arith

pub plus_zero : (n : ℕ) → n ≡ n + 0
plus_zero n = omega arith

pub minus_zero : (n : ℕ) → n ≡ n - 0
minus_zero n = omega arith

pub suc_plus : (n : ℕ) → suc n ≡ n + 1
suc_plus n = omega arith

pub suc_minus : (n : ℕ) → suc n - 1 ≡ n
suc_minus n = omega arith

pub plus_suc : (k n : ℕ) → k + 1 + n ≡ k + suc n
plus_suc k n = omega arith

pub times_suc : (n q : ℕ) → n * (q + 1) ≡ n * q + n
times_suc n q = omega arith

pub over_one : (n : ℕ) → n / 1 ≡ n
over_one n = omega arith

pub some_number : (n : ℕ) → n ≢ 0 → 0 < n
some_number zero other = absurd (other refl)
some_number (suc n) other = omega arith

pub split_n : (n x : ℕ) → 0 < n → n * (x / n) + x % n ≡ x
split_n n x some = omega arith

-- ---- lists

pub no_elements : {X : Type 0} (xs : List X) → nat_lt 0 (length xs) ≡ false → xs ≡ []
no_elements [] none = refl
no_elements (x ∷ xs) none = absurd (omega (arith, ltb-false 0 (length (x ∷ xs)) none))

-- fronts of one length, and what stands after them
pub same_front : (a b x y : List ℕ) → length a ≡ length b → a ++ x ≡ b ++ y → (a ≡ b) × (x ≡ y)
same_front a b x y size same = (
  sym (take_at a x (length b) size) ∙ ap (λ (l : List ℕ). take (length b) l) same ∙ take_at b y (length b) refl,
  sym (drop_at a x (length b) size) ∙ ap (λ (l : List ℕ). drop (length b) l) same ∙ drop_at b y (length b) refl,
)

-- ---- one place of a list

-- no element passes where there is no first one that does
pub none_passes : {X : Type 0} (p : X → Bool) (xs : List X) (d : X) → position p xs ≡ None → (k : ℕ) → k < length xs → p (get_or xs k d) ≡ false
none_passes p xs d none k within = elim (cases_Bool (nat_lt (position_or_len p xs) (length xs))) [
  | inl inside ↦ let some : position p xs ≡ Some (position_or_len p xs) = (rw inside refl) in cc
  | inr outside ↦ fails_before_first p xs k d (omega (arith, ltb-false (position_or_len p xs) (length xs) outside))
]

pub get_set : {X : Type 0} (xs : List X) (i : ℕ) (x : X) → i < length xs → slice_get (set xs i x) i ≡ Some x
get_set [] i x inside = absurd (omega arith)
get_set (z ∷ xs) zero x inside = refl
get_set (z ∷ xs) (suc i) x inside = get_set xs i x (omega arith)

pub get_set_other : {X : Type 0} (xs : List X) (i k : ℕ) (x : X) → k ≢ i → slice_get (set xs i x) k ≡ slice_get xs k
get_set_other [] i k x other = refl
get_set_other (y ∷ xs) zero zero x other = absurd (other refl)
get_set_other (y ∷ xs) zero (suc k) x other = refl
get_set_other (y ∷ xs) (suc i) zero x other = refl
get_set_other (y ∷ xs) (suc i) (suc k) x other = get_set_other xs i k x (λ e. other (ap suc e))
