-- The rows of a vector and the table that they are.
use Rattle.std.{proofs.{Common.{◌≡◌, ℕ, ◌<◌, inl, inr, List, [], length, get_or, set, Some, None, is_some, sym, ap, subst, ◌∙◌, arith}, lemmas.Bool.{false≢true}}, specs.{Prelude.{IsTrue}, List.{insert, remove}}}
use Rattle.std.specs.FinMap as map
use Rattle.df_rows.{specs.{Rows.{Entry}, Commands.{Map}, Sorted.{AreRows, IsAt, IsGap}, Tables.{HasRoom, Table, with_row}}, proofs.{Found.{found_at, look, missed_in_gap, none_in_gap}, Edited.{look_insert, look_remove, look_set, only_at}, Viewed.{entries_of, get_looks, inserted, len_of, map_of, none_removed, removed}}}

abbrev pub table_of : ℕ → List Entry → Table
table_of max es = record { max = max; rows = map_of es }

same_rows : (max : ℕ) (m n : Map) → m ≡ n → ◌≡◌ {A = Table} (record { max = max; rows = m }) (record { max = max; rows = n })
same_rows max m n same = λ i. record { max = max; rows = same i }

-- the table without a key
abbrev without : ℕ → Table → Table
without k t = record { max = t.max; rows = map.remove t.rows k }

-- of a map without the key none has it
pub no_key : (m : Map) (k : ℕ) → map.get m k ≡ None → IsTrue (map.contains_key m k) → ⊥
no_key m k none has = false≢true (sym (ap is_some none) ∙ has)

-- a place in a list that is another one's, under the same key
pub same_place : (ds es : List Entry) (j k i : ℕ) → ds ≡ es → j ≡ k → IsAt ds j i → IsAt es k i
same_place ds es j k i list key at = subst (λ (l : List Entry). IsAt l k i) list (rw key at at)

pub same_gap : (ds es : List Entry) (j k i : ℕ) → ds ≡ es → j ≡ k → IsGap ds j i → IsGap es k i
same_gap ds es j k i list key gap = subst (λ (l : List Entry). IsGap l k i) list (rw key at gap)

module _ (max room : ℕ) (es : List Entry) (t : Table) (is : table_of max es ≡ t) (are : AreRows max room es) where
  pub max_is : t.max ≡ max
  max_is = sym (ap (λ (x : Table). x.max) is)

  rows_are : t.rows ≡ map_of es
  rows_are = sym (ap (λ (x : Table). x.rows) is)

  pub get_is : (k : ℕ) → map.get t.rows k ≡ look k es
  get_is k = ap (λ (m : Map). map.get m k) rows_are ∙ get_looks es k

  pub len_is : map.len t.rows ≡ length es
  len_is = ap (λ (m : Map). map.len m) rows_are ∙ len_of es are.rise

  pub entries_are : map.entries t.rows ≡ es
  entries_are = ap (λ (m : Map). map.entries m) rows_are ∙ entries_of es are.rise

  pub get_at : (k i : ℕ) → IsAt es k i → map.get t.rows k ≡ Some (get_or es i (0, [])).1
  get_at k i at = get_is k ∙ found_at es are.rise k i at

  pub get_gap : (k i : ℕ) → IsGap es k i → map.get t.rows k ≡ None
  get_gap k i gap = get_is k ∙ missed_in_gap es k i gap

  pub put_at_place : (e : Entry) (i : ℕ) → IsAt es e.0 i → table_of max (set es i e) ≡ with_row e t
  put_at_place e i at = same_rows max (map_of (set es i e))
      (map.insert (map_of es) e.0 e.1) (inserted es (set es i e) e (look_set es e i at (only_at max room es are e.0 i at).before))
      ∙ ap (λ (x : Table). with_row e x) is

  pub put_in_gap : (e : Entry) (i : ℕ) → IsGap es e.0 i → table_of max (insert es i e) ≡ with_row e t
  put_in_gap e i gap = same_rows max (map_of (insert es i e)) (map.insert (map_of es) e.0 e.1)
      (inserted es (insert es i e) e (look_insert es e i gap.inside (λ j before. none_in_gap es e.0 i gap j (omega (arith, gap.inside)))))
      ∙ ap (λ (x : Table). with_row e x) is

  pub remove_at : (k i : ℕ) → IsAt es k i → table_of max (remove es i) ≡ record { max = t.max; rows = map.remove t.rows k }
  remove_at k i at = same_rows max
      (map_of (remove es i)) (map.remove (map_of es) k) (removed es (remove es i) k (look_remove es k i (only_at max room es are k i at)))
      ∙ ap (λ (x : Table). without k x) is

  pub remove_none : (k i : ℕ) → IsGap es k i → t ≡ record { max = t.max; rows = map.remove t.rows k }
  remove_none k i gap = same_rows t.max t.rows (map.remove t.rows k) (none_removed t.rows k (get_gap k i gap))

  -- a row whose key isn't there has room where there may be more rows
  pub room_in_gap : (k i : ℕ) → IsGap es k i → HasRoom t k → length es < max
  room_in_gap k i gap has = elim has [
    | inl key ↦ absurd (no_key t.rows k (get_gap k i gap) key)
    | inr free ↦ omega (arith, len_is, max_is)
  ]
