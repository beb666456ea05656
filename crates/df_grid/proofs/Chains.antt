-- Addresses with their checksums: what is looked up among them, and what changes of the table make of them.
use Rattle.std.{proofs.Common.{◌≡◌, ◌≢◌, ℕ, zero, suc, ◌+◌, ◌<◌, ◌==◌, ◌||◌, Bool, true, false, cond, Some, None, List, [], ◌∷◌, map, set, refl, sym, ap, ◌∙◌, arith, ne_eqb, eqb-true}, specs.Prelude.{slice_get}}
use Rattle.{df_base.proofs.Laws.{same_test}, df_model.specs.{Work.{is_in}, Blocks.{sum_at}, Sense.{RiseFrom}}}
use Rattle.{df_units.specs.Meaning.{number_of}, df_grid.specs.{declared.entry.Entry.{Entry}, Table.{paired, sum_at_address, sum_from}}}

-- the checksum of an entry's address
pub sum_there : (a i : ℕ) (es : List Entry) (e : Entry) → a ≡ suc i → slice_get es i ≡ Some e → sum_at_address es a ≡ number_of e.checksum
sum_there a i es e is at = ap (sum_at_address es) is ∙ from i es at
  where
    from : (i : ℕ) (es : List Entry) → slice_get es i ≡ Some e → sum_from es i ≡ number_of e.checksum
    from i [] at = absurd (cc)
    from zero (x ∷ es) at = let same : x ≡ e = cc in ap (λ (y : Entry). number_of y.checksum) same
    from (suc i) (x ∷ es) at = from i es at

-- an address is looked up exactly where it is one of them
pub pair_at : (es : List Entry) (a : ℕ) (xs : List ℕ) → sum_at a (paired es xs) ≡ cond (is_in a xs) (Some (sum_at_address es a)) None
pair_at es a [] = refl
pair_at es a (x ∷ xs) =
    ap (λ (b : Bool). cond b (Some (sum_at_address es x)) (sum_at a (paired es xs))) (same_test x a) ∙ go (a == x) refl (pair_at es a xs)
  where
    go : (b : Bool) → (a == x) ≡ b → sum_at a (paired es xs) ≡ cond (is_in a xs) (Some (sum_at_address es a)) None
        → cond b (Some (sum_at_address es x)) (sum_at a (paired es xs)) ≡ cond (b || is_in a xs) (Some (sum_at_address es a)) None
    go true is more = ap (λ (k : ℕ). Some (sum_at_address es k)) (sym (eqb-true a x is))
    go false is more = more

-- tables with the same checksums
pub pair_same : (es fs : List Entry) (xs : List ℕ)
    → ((a : ℕ) → is_in a xs ≡ true → sum_at_address fs a ≡ sum_at_address es a) → paired fs xs ≡ paired es xs
pair_same es fs [] same = refl
pair_same es fs (x ∷ xs) same = ap (λ (c : ℕ). (x, c) ∷ paired fs xs) (same x (here x xs))
    ∙ ap (λ (l : List (ℕ × ℕ)). (x, sum_at_address es x) ∷ l) (pair_same es fs xs (λ a there. same a (later a x xs there)))
  where
    here : (x : ℕ) (xs : List ℕ) → ((x == x) || is_in x xs) ≡ true
    here x xs = ap (λ (b : Bool). b || is_in x xs) (yes x)
      where
        yes : (x : ℕ) → (x == x) ≡ true
        yes x = grind arith

    later : (a x : ℕ) (xs : List ℕ) → is_in a xs ≡ true → ((a == x) || is_in a xs) ≡ true
    later a x xs there = go (a == x)
      where
        go : (b : Bool) → (b || is_in a xs) ≡ true
        go true = refl
        go false = there

from_other : (i j : ℕ) (es : List Entry) (e : Entry) → j ≢ i → sum_from (set es i e) j ≡ sum_from es j
from_other i j [] e other = refl
from_other zero zero (x ∷ es) e other = absurd (other refl)
from_other zero (suc j) (x ∷ es) e other = refl
from_other (suc i) zero (x ∷ es) e other = refl
from_other (suc i) (suc j) (x ∷ es) e other = from_other i j es e (λ same. other (ap suc same))

-- an entry that is changed leaves the checksums of the other addresses
pub sum_other : (a k i : ℕ) (es : List Entry) (e : Entry) → a ≡ suc i → k ≢ a → sum_at_address (set es i e) k ≡ sum_at_address es k
sum_other a zero i es e is other = refl
sum_other a (suc j) i es e is other = from_other i j es e (λ same. other (ap suc same ∙ sym is))

from_map : (f : Entry → Entry) (i : ℕ) (es : List Entry) → ((e : Entry) → (f e).checksum ≡ e.checksum) → sum_from (map f es) i ≡ sum_from es i
from_map f i [] same = refl
from_map f zero (e ∷ es) same = ap number_of (same e)
from_map f (suc i) (e ∷ es) same = from_map f i es same

pub sum_map : (f : Entry → Entry) (a : ℕ) (es : List Entry)
    → ((e : Entry) → (f e).checksum ≡ e.checksum) → sum_at_address (map f es) a ≡ sum_at_address es a
sum_map f zero es same = refl
sum_map f (suc i) es same = from_map f i es same

-- ---- addresses that rise

-- those that rise above an address don't have it
pub rise_out : (a b : ℕ) (xs : List ℕ) → RiseFrom b xs → a < b → is_in a xs ≡ false
rise_out a b [] rise less = refl
rise_out a b (x ∷ xs) rise less =
    ap (λ (e : Bool). e || is_in a xs) (ne_eqb a x (λ same. omega (arith, rise.0))) ∙ rise_out a (x + 1) xs rise.1 (omega (arith, rise.0))

-- an entry that is changed and keeps its checksum leaves all of them
pub sum_keep : (i : ℕ) (es : List Entry) (e old : Entry) (a : ℕ)
    → slice_get es i ≡ Some old → e.checksum ≡ old.checksum → sum_at_address (set es i e) a ≡ sum_at_address es a
sum_keep i es e old zero at same = refl
sum_keep i es e old (suc k) at same = from i k es at
  where
    from : (i k : ℕ) (es : List Entry) → slice_get es i ≡ Some old → sum_from (set es i e) k ≡ sum_from es k
    from i k [] at = refl
    from zero zero (x ∷ es) at = let here : old ≡ x = cc in ap number_of same ∙ ap (λ (y : Entry). number_of y.checksum) here
    from zero (suc k) (x ∷ es) at = refl
    from (suc i) zero (x ∷ es) at = refl
    from (suc i) (suc k) (x ∷ es) at = from i k es at
