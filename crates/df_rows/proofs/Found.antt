-- What is found under a key in a list of rows, whatever their order, and the place of a key where the keys rise.
use Rattle.std.{proofs.{Common.{◌≡◌, ◌≢◌, ℕ, zero, suc, ◌<◌, ◌≤◌, eqb, cond, List, [], ◌∷◌, length, get_or, Option, Some, None, Result, Ok, Err, IfOk, IfErr, refl, sym, ap, ◌∙◌, inl, inr, arith}, lemmas.Cmp.{ranked}, lemmas.Bool.{cases_order, eq-eqb, le-ltb, lt-ltb, ne_eqb}, lemmas.Bool.Decides.{nat_tests}, lemmas.List.Sorted.{IsNonDecreasingBy-from_default}}, specs.{List.Sorted.{IsSearchInRange, IsBinarySearchResult, IsNonDecreasingBy}, Ordering.{eq_by_cmp, nat_cmp, ordering_index}, FinMap.{find}}}
use Rattle.df_rows.specs.{Rows.{Entry}, Sorted.{IsAt, IsGap, KeysRise, key_at}}

-- the value of the first row with the key
abbrev pub look : ℕ → List Entry → Option (List ℕ)
look q [] = None
look q (e ∷ es) = cond (eqb q e.0) (Some e.1) (look q es)

-- keys that tie are equal
pub tied : (q k : ℕ) → eq_by_cmp nat_cmp q k ≡ eqb q k
tied q k = elim (cases_order q k) [
  | inl same ↦ rw (le-ltb q k (omega arith), eq-eqb q k same) refl
  | inr (inl less) ↦ rw (lt-ltb q k less, ne_eqb q k (omega arith)) refl
  | inr (inr more) ↦ rw (le-ltb q k (omega arith), ne_eqb q k (omega arith)) refl
]

pub find_looks : (q : ℕ) (es : List Entry) → find nat_cmp q es ≡ look q es
find_looks q [] = refl
find_looks q (e ∷ es) = ap (λ b. cond b (Some e.1) (find nat_cmp q es)) (tied q e.0)
    ∙ ap (λ (o : Option (List ℕ)). cond (eqb q e.0) (Some e.1) o) (find_looks q es)

-- ---- a key's place

-- no row before this place has the key
abbrev pub NoneBefore : List Entry → ℕ → ℕ → Type 0
NoneBefore es k i = (j : ℕ) → j < i → key_at es j ≢ k

pub none_tail : (e : Entry) (es : List Entry) (k i : ℕ) → NoneBefore (e ∷ es) k (suc i) → NoneBefore es k i
none_tail e es k i none j before = none (suc j) (omega arith)

pub at_tail : (e : Entry) (es : List Entry) (k i : ℕ) → IsAt (e ∷ es) k (suc i) → IsAt es k i
at_tail e es k i is = record { inside = omega (arith, is.inside); has = is.has }

pub look_none : (es : List Entry) (k : ℕ) → NoneBefore es k (length es) → look k es ≡ None
look_none [] k none = refl
look_none (e ∷ es) k none = rw (ne_eqb k e.0 (λ same. none 0 (omega arith) (sym same))) (look_none es k (none_tail e es k (length es) none))

pub look_at : (es : List Entry) (k i : ℕ) → IsAt es k i → NoneBefore es k i → look k es ≡ Some (get_or es i (0, [])).1
look_at [] k i is none = absurd (omega (arith, is.inside))
look_at (e ∷ es) k zero is none = rw (eq-eqb k e.0 (sym is.has)) refl
look_at (e ∷ es) k (suc i) is none =
    rw (ne_eqb k e.0 (λ same. none 0 (omega arith) (sym same))) (look_at es k i (at_tail e es k i is) (none_tail e es k i none))

-- ---- where a search ends

module _ (es : List Entry) (rise : KeysRise es) (k : ℕ) where
  comparisons_rise : IsNonDecreasingBy (λ (e : Entry). ordering_index (nat_cmp e.0 k)) es
  comparisons_rise = IsNonDecreasingBy-from_default (λ (e : Entry). ordering_index (nat_cmp e.0 k)) es (0, []) (λ i j le inside.
      let keys : key_at es i ≤ key_at es j = grind (arith, rise i j, λ (same : i ≡ j). ap (key_at es) same) in grind (arith, nat_tests))

  -- a search by key ends at the key, or at the gap for it
  pub searched : (r : Result ℕ ℕ) → IsSearchInRange r (length es)
      → IsBinarySearchResult (λ (e : Entry). nat_cmp e.0 k) es r → record { found : IfOk r (IsAt es k); absent : IfErr r (IsGap es k) }
  searched (Ok at) inside equal = record { found = record { inside = inside; has = ranked _ k _ (sym (equal (0, []))) }; absent = tt }
  searched (Err at) inside parted = record {
    found = tt;
    absent = record {
      inside = inside;
      before = λ j lt. ranked _ k _ (sym ((parted comparisons_rise).0 j (0, []) (omega arith) lt));
      behind = λ j le lt. ranked _ k _ (sym ((parted comparisons_rise).1 j (0, []) le lt));
    };
  }

  pub none_before_at : (i : ℕ) → IsAt es k i → NoneBefore es k i
  none_before_at i is j lt same = omega (arith, rise j i lt is.inside, is.has)

  pub none_behind_at : (i j : ℕ) → IsAt es k i → i < j → j < length es → key_at es j ≢ k
  none_behind_at i j is lt inside same = omega (arith, rise i j lt inside, is.has)

  pub found_at : (i : ℕ) → IsAt es k i → look k es ≡ Some (get_or es i (0, [])).1
  found_at i is = look_at es k i is (none_before_at i is)

pub none_in_gap : (es : List Entry) (k i : ℕ) → IsGap es k i → NoneBefore es k (length es)
none_in_gap es k i gap j inside same = grind (arith, gap.before j, gap.behind j)

pub missed_in_gap : (es : List Entry) (k i : ℕ) → IsGap es k i → look k es ≡ None
missed_in_gap es k i gap = look_none es k (none_in_gap es k i gap)
