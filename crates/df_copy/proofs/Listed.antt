-- Lists that get one more: what is found in them, and what is written and tested of them.
use Rattle.std.{proofs.{Common.{◌≡◌, ◌⊎◌, inl, inr, ℕ, zero, suc, ◌+◌, ◌<◌, List, [], ◌∷◌, ◌++◌, length, Option, Some, None, refl, sym, ◌∙◌, ap, arith, append_assoc}, lemmas.{Bool.{cases_eq}, List.{append-nil, ext_get_or, get_or-set_other, get_or-set_same, length-set, FromFn.{get_or-map-range_with_len, length-map-range_with_len}}, Option.{same_Some}}}, specs.Prelude.{get_or, slice_get, slice_set}}
use Rattle.{df_base.{specs.Log.{Event}, proofs.Laws.{zero_plus, plus_zero, plus_suc}}, df_disk.specs.Told.{Told}}
use Rattle.{df_format.specs.Message.{Message}, df_model.specs.{Making.{named_places}, Supply.{Shown}}, df_opening.specs.Below.{DataFile}}
use Rattle.df_replica.specs.Reading.{shown_of}
use Rattle.df_copy.specs.{Targets.{check_of, checks_of}, Units.{OverShown, all_events, moved, moved_from}}

-- ---- what is found

pub push_cases : {X : Type 0} (xs : List X) (y : X) (i : ℕ) (x : X)
    → slice_get (xs ++ y ∷ []) i ≡ Some x → (slice_get xs i ≡ Some x) ⊎ ((i ≡ length xs) × (y ≡ x))
push_cases [] y zero x is = inr (refl, same_Some y x is)
push_cases [] y (suc i) x is = absurd (cc)
push_cases (z ∷ xs) y zero x is = inl is
push_cases (z ∷ xs) y (suc i) x is = elim (push_cases xs y i x is) [
  | inl there ↦ inl there
  | inr last ↦ inr (ap suc last.0, last.1)
]

pub push_other : {X : Type 0} (xs : List X) (y : X) (i : ℕ) → (i ≡ length xs → ⊥) → slice_get (xs ++ y ∷ []) i ≡ slice_get xs i
push_other [] y zero other = absurd (other refl)
push_other [] y (suc i) other = refl
push_other (x ∷ xs) y zero other = refl
push_other (x ∷ xs) y (suc i) other = push_other xs y i (λ same. other (ap suc same))

pub push_last : {X : Type 0} (xs : List X) (y : X) → slice_get (xs ++ y ∷ []) (length xs) ≡ Some y
push_last [] y = refl
push_last (x ∷ xs) y = push_last xs y

pub push_length : {X : Type 0} (xs : List X) (y : X) (n : ℕ) → length xs ≡ n → length (xs ++ y ∷ []) ≡ n + 1
push_length [] y n is = omega (arith, is)
push_length (x ∷ xs) y zero is = absurd (omega (arith, is))
push_length (x ∷ xs) y (suc n) is = let rest = push_length xs y n (omega (arith, is)) in omega (arith, rest)

pub split_at : {X : Type 0} (xs ys : List X) (x : X) → slice_get (xs ++ x ∷ ys) (length xs) ≡ Some x
split_at [] ys x = refl
split_at (z ∷ xs) ys x = split_at xs ys x

-- ---- what is written

pub events_push : (events : Message → List Event) (us : List Message) (u : Message)
    → all_events events (us ++ u ∷ []) ≡ all_events events us ++ events u
events_push events [] u = append-nil (events u)
events_push events (v ∷ us) u =
    ap (λ (l : List Event). events v ++ l) (events_push events us u) ∙ sym (append_assoc (events v) (all_events events us) (events u))

pub moved_push : (a : ℕ) (us : List Message) (u : Message) → moved_from a (us ++ u ∷ []) ≡ moved_from a us ++ moved (a + length us) u ∷ []
moved_push a [] u = ap (λ (k : ℕ). moved k u ∷ []) (plus_zero a)
moved_push a (v ∷ us) u = ap (λ (l : List Message).
    moved a v ∷ l) (moved_push (a + 1) us u ∙ ap (λ (k : ℕ). moved_from (a + 1) us ++ moved k u ∷ []) (plus_suc a (length us)))

pub moved_length : (a : ℕ) (us : List Message) → length (moved_from a us) ≡ length us
moved_length a [] = refl
moved_length a (u ∷ us) = ap suc (moved_length (a + 1) us)

-- ---- the checksums of replies

pub many_checks : (us : List Message) → length (checks_of us) ≡ named_places
many_checks us = length-map-range_with_len (λ (k : ℕ). check_of (slice_get us k)) 0 named_places

pub check_at : (us : List Message) (k : ℕ) (past : List ℕ) → k < named_places → get_or (checks_of us) k past ≡ check_of (slice_get us k)
check_at us k past inside = get_or-map-range_with_len (λ (j : ℕ). check_of (slice_get us j)) 0 named_places k k past inside (zero_plus k)

-- another list has them, but for one place
pub checks_with : (us vs : List Message) (k : ℕ) (check : List ℕ) → k < named_places → check_of (slice_get vs k) ≡ check
    → ((i : ℕ) → (i ≡ k → ⊥) → check_of (slice_get vs i) ≡ check_of (slice_get us i)) → checks_of vs ≡ slice_set (checks_of us) k check
checks_with us vs k check inside here there = ext_get_or [] (checks_of vs) (slice_set (checks_of us) k check)
    (many_checks vs ∙ sym (length-set (checks_of us) k check ∙ many_checks us)) (λ i within. same i (omega (arith, within, many_checks vs)))
  where
    same : (i : ℕ) → i < named_places → get_or (checks_of vs) i [] ≡ get_or (slice_set (checks_of us) k check) i []
    same i within = elim (cases_eq i k) [
      | inl is ↦ check_at vs i [] within ∙ ap (λ (j : ℕ). check_of (slice_get vs j)) is ∙ here
          ∙ sym (ap (λ (j : ℕ). get_or (slice_set (checks_of us) k check) j []) is
          ∙ get_or-set_same (checks_of us) k check [] (omega (arith, inside, many_checks us)))
      | inr other ↦
          check_at vs i [] within ∙ there i other ∙ sym (check_at us i [] within) ∙ sym (get_or-set_other (checks_of us) k i check [] other)
    ]

pub checks_push : (us : List Message) (u : Message)
    → length us < named_places → checks_of (us ++ u ∷ []) ≡ slice_set (checks_of us) (length us) u.header.checksum
checks_push us u inside = checks_with us (us ++ u ∷ []) (length us) u.header.checksum inside (ap check_of (push_last us u)) (λ i other.
    ap check_of (push_other us u i other))

-- ---- what is said of what a disk shows, where it tells that

pub over_all : (file : DataFile) (told : Option Told) (P : Shown → Type 0) → ((shown : Shown) → P shown) → OverShown file told P
over_all file None P f = tt
over_all file (Some t) P f = f (shown_of file t.shown)

pub over_by : (file : DataFile) (told : Option Told) (P Q : Shown → Type 0)
    → OverShown file told P → ((shown : Shown) → P shown → Q shown) → OverShown file told Q
over_by file None P Q is f = tt
over_by file (Some t) P Q is f = f (shown_of file t.shown) is

pub over_both : (file : DataFile) (told : Option Told) (P Q R : Shown → Type 0)
    → OverShown file told P → OverShown file told Q → ((shown : Shown) → P shown → Q shown → R shown) → OverShown file told R
over_both file None P Q R is also f = tt
over_both file (Some t) P Q R is also f = f (shown_of file t.shown) is also
