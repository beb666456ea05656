-- What tests say.
use Rattle.std.{proofs.Common.{◌≡◌, ℕ, ◌+◌, Bool, true, false, if◌then◌else◌, List, [], ◌∷◌, ◌++◌, length, Some, None, refl, ◌∙◌, ap, zero, suc, arith}, specs.List.{slice_get}}
use Rattle.df_model.specs.Refusals.{first_refusal}

-- no test refuses
abbrev pub AllPass : {E : Type 0} → List (Bool × E) → Type 0
AllPass [] = Unit {0}
AllPass (t ∷ ts) = (t.0 ≡ false) × AllPass ts

pass_case : {E : Type 0} (b : Bool) (e : E) (ts : List (Bool × E))
    → (if b then Some e else first_refusal ts) ≡ None → (first_refusal ts ≡ None → AllPass ts) → (b ≡ false) × AllPass ts
pass_case true e ts none more = absurd (cc)
pass_case false e ts none more = (refl, more none)

pub all_pass : {E : Type 0} (ts : List (Bool × E)) → first_refusal ts ≡ None → AllPass ts
all_pass [] none = tt
all_pass (t ∷ ts) none = pass_case t.0 t.1 ts none (λ more. all_pass ts more)

both_case : {E : Type 0} (b : Bool) (e : E) (ts us : List (Bool × E)) → (if b then Some e else first_refusal (ts ++ us)) ≡ None
    → (first_refusal (ts ++ us) ≡ None → (first_refusal ts ≡ None) × (first_refusal us ≡ None))
    → ((if b then Some e else first_refusal ts) ≡ None) × (first_refusal us ≡ None)
both_case true e ts us none more = absurd (cc)
both_case false e ts us none more = more none

-- of two lists of tests neither refuses
pub pass_both : {E : Type 0} (ts us : List (Bool × E)) → first_refusal (ts ++ us) ≡ None → (first_refusal ts ≡ None) × (first_refusal us ≡ None)
pass_both [] us none = (refl, none)
pass_both (t ∷ ts) us none = both_case t.0 t.1 ts us none (λ more. pass_both ts us more)

-- what refuses of the first refuses of both
first_case : {E : Type 0} (b : Bool) (e x : E) (ts us : List (Bool × E)) → (if b then Some x else first_refusal ts) ≡ Some e
    → (first_refusal ts ≡ Some e → first_refusal (ts ++ us) ≡ Some e) → (if b then Some x else first_refusal (ts ++ us)) ≡ Some e
first_case true e x ts us some more = some
first_case false e x ts us some more = more some

pub first_refuses : {E : Type 0} (ts us : List (Bool × E)) (e : E) → first_refusal ts ≡ Some e → first_refusal (ts ++ us) ≡ Some e
first_refuses [] us e some = absurd (cc)
first_refuses (t ∷ ts) us e some = first_case t.0 e t.1 ts us some (λ more. first_refuses ts us e more)

behind_case : {E : Type 0} (b : Bool) (e : E) (ts us : List (Bool × E)) → (if b then Some e else first_refusal ts) ≡ None → (first_refusal
    ts ≡ None → first_refusal (ts ++ us) ≡ first_refusal us) → (if b then Some e else first_refusal (ts ++ us)) ≡ first_refusal us
behind_case true e ts us none more = absurd (cc)
behind_case false e ts us none more = more none

-- where none of the first does, those after them decide
pub behind_decides : {E : Type 0} (ts us : List (Bool × E)) → first_refusal ts ≡ None → first_refusal (ts ++ us) ≡ first_refusal us
behind_decides [] us none = refl
behind_decides (t ∷ ts) us none = behind_case t.0 t.1 ts us none (λ more. behind_decides ts us more)

-- ---- a list that is longer

pub get_before : {X : Type 0} (xs ys : List X) (i : ℕ) (x : X) → slice_get xs i ≡ Some x → slice_get (xs ++ ys) i ≡ Some x
get_before [] ys i x at = absurd (cc)
get_before (z ∷ xs) ys zero x at = at
get_before (z ∷ xs) ys (suc i) x at = get_before xs ys i x at

pub get_behind : {X : Type 0} (xs ys : List X) (i j : ℕ) (x : X)
    → i ≡ length xs + j → slice_get ys j ≡ Some x → slice_get (xs ++ ys) i ≡ Some x
get_behind [] ys i j x same at = ap (slice_get ys) (let e : i ≡ j = omega (arith, same) in e) ∙ at
get_behind (z ∷ xs) ys zero j x same at = absurd (omega (arith, same))
get_behind (z ∷ xs) ys (suc i) j x same at = get_behind xs ys i j x (omega (arith, same)) at

-- ---- and by one

pub get_front : {X : Type 0} (xs : List X) (y : X) (i : ℕ) (x : X) → slice_get xs i ≡ Some x → slice_get (xs ++ y ∷ []) i ≡ Some x
get_front [] y i x at = absurd (cc)
get_front (z ∷ xs) y zero x at = at
get_front (z ∷ xs) y (suc i) x at = get_front xs y i x at

pub get_last : {X : Type 0} (xs : List X) (y : X) (i : ℕ) → i ≡ length xs → slice_get (xs ++ y ∷ []) i ≡ Some y
get_last [] y zero same = refl
get_last [] y (suc i) same = absurd (omega arith)
get_last (z ∷ xs) y zero same = absurd (omega arith)
get_last (z ∷ xs) y (suc i) same = get_last xs y i (omega arith)
