-- What tests say, and lists at one index.
use Rattle.std.{proofs.Common.{◌≡◌, ℕ, zero, suc, ◌<◌, Bool, true, false, Some, List, [], ◌∷◌, length, set, refl, sym, ap, arith}, specs.Prelude.{slice_get}}

pub not_both : {P : Type 0} (b : Bool) → b ≡ true → b ≡ false → P
not_both true is isnt = absurd (cc)
not_both false is isnt = absurd (cc)

-- ---- one place of a list

pub get_set_same : {X : Type 0} (xs : List X) (i : ℕ) (x y : X) → slice_get xs i ≡ Some x → slice_get (set xs i y) i ≡ Some y
get_set_same [] i x y at = absurd (cc)
get_set_same (z ∷ xs) zero x y at = refl
get_set_same (z ∷ xs) (suc i) x y at = get_set_same xs i x y at

pub set_back : {X : Type 0} (xs : List X) (i : ℕ) (x : X) → slice_get xs i ≡ Some x → set xs i x ≡ xs
set_back [] i x at = refl
set_back (z ∷ xs) zero x at = let e : z ≡ x = cc in ap (λ (y : _). y ∷ xs) (sym e)
set_back (z ∷ xs) (suc i) x at = ap (λ (ys : List _). z ∷ ys) (set_back xs i x at)

pub one_there : {X : Type 0} (xs : List X) (i : ℕ) (x y : X) → slice_get xs i ≡ Some x → slice_get xs i ≡ Some y → x ≡ y
one_there xs i x y a b = cc

-- there is an element at each place
pub some_there : {X : Type 0} (xs : List X) (i : ℕ) → i < length xs → (x : X) × (slice_get xs i ≡ Some x)
some_there [] i less = absurd (omega arith)
some_there (x ∷ xs) zero less = (x, refl)
some_there (x ∷ xs) (suc i) less = some_there xs i (omega arith)
