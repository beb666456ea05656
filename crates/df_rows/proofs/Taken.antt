-- What a table takes: rows in turn, the rows of bodies, and that bodies are one table.
use Rattle.std.{proofs.{Common.{◌≡◌, ◌≢◌, ℕ, zero, suc, ◌+◌, ◌*◌, ◌<◌, ◌≤◌, eqb, cond, Bool, true, false, ◌&&◌, List, [], ◌∷◌, ◌++◌, length, take, drop, ◌-◌, map, Option, Some, None, is_some, inl, inr, refl, sym, ap, ◌∙◌, arith, length-append}, Math.Dec.{T}, lemmas.Bool.{cases_eq, eq-eqb, ne_eqb}, lemmas.List.{drop-drop, take-append-drop}, lemmas.List.Elements.{All-cons, All-head, All-nil, All-tail}}, specs.{List.{All}, Ordering.{is_lt, nat_cmp}, Cmp.{nat_cmp_total}, FinMap.{get-entries, get-empty, entries_sorted, is_sorted, len-insert, len-empty, len-entries}, FinMap.Entries.{below_all}}}
use Rattle.std.specs.FinMap as finite
use Rattle.df_base.proofs.Laws.{same_front}
use Rattle.df_rows.{specs.{Rows.{Entry, IsEntry, row_of, rows_of}, Commands.{Map}, Sorted.{KeysRise, key_at}, Tables.{AreNew, IsNew, Table, with_row, with_rows}, Blocks.{TableTakes, TakesAll, chunks_of}, Laws.{BlocksAreTable, OneTable}}, proofs.{Entries.{length-row_of, row_split}, Found.{find_looks, look, look_none}, Viewed.{get_inserted, rise_tail, same_maps}, Chunked.{joined, joined_chunks}}}

-- ---- the bytes of rows

pub length-rows_of : (es : List Entry) → All IsEntry es → length (rows_of es) ≡ 64 * length es
length-rows_of [] are = refl
length-rows_of (e ∷ es) are =
    omega (arith, length-append (row_of e) (rows_of es), length-row_of e (All-head IsEntry e es are), length-rows_of es (All-tail IsEntry e es are))

-- bytes are one list of rows
pub one_list : (es fs : List Entry) → All IsEntry es → All IsEntry fs → rows_of es ≡ rows_of fs → es ≡ fs
one_list [] [] are other same = refl
one_list [] (f ∷ fs) are other same = absurd (omega (arith, ap length same, length-rows_of (f ∷ fs) other))
one_list (e ∷ es) [] are other same = absurd (omega (arith, ap length same, length-rows_of (e ∷ es) are))
one_list (e ∷ es) (f ∷ fs) are other same =
    let parts = row_split e f (rows_of es) (rows_of fs) (All-head IsEntry e es are) (All-head IsEntry f fs other) same in
    let rest = one_list es fs (All-tail IsEntry e es are) (All-tail IsEntry f fs other) parts.1 in λ i. parts.0 i ∷ rest i

-- ---- bodies are one table

pub one_body : (t : Table) (body : List ℕ) (es fs : List Entry) → TableTakes t body es → TableTakes t body fs → es ≡ fs
one_body t body es fs one other = one_list es fs one.fit other.fit (sym one.whole ∙ other.whole)

pub one_table : OneTable
one_table t one other [] first second = first ∙ sym second
one_table t one other (body ∷ bodies) first second = let same : second.0 ≡ first.0 = one_body t body second.0 first.0 second.1 first.1 in
    one_table (with_rows first.0 t) one other bodies first.2 (rw same at second.2)

-- ---- rows in turn

pub with_append : (es fs : List Entry) (t : Table) → with_rows (es ++ fs) t ≡ with_rows fs (with_rows es t)
with_append [] fs t = refl
with_append (e ∷ es) fs t = with_append es fs (with_row e t)

new_front : (es fs : List Entry) (t : Table) → AreNew (es ++ fs) t → AreNew es t
new_front [] fs t are = tt
new_front (e ∷ es) fs t are = (are.0, new_front es fs (with_row e t) are.1)

new_behind : (es fs : List Entry) (t : Table) → AreNew (es ++ fs) t → AreNew fs (with_rows es t)
new_behind [] fs t are = are
new_behind (e ∷ es) fs t are = new_behind es fs (with_row e t) are.1

all_front : (es fs : List Entry) → All IsEntry (es ++ fs) → All IsEntry es
all_front [] fs are = All-nil IsEntry
all_front (e ∷ es) fs are = All-cons IsEntry e es (All-head IsEntry e (es ++ fs) are) (all_front es fs (All-tail IsEntry e (es ++ fs) are))

all_behind : (es fs : List Entry) → All IsEntry (es ++ fs) → All IsEntry fs
all_behind [] fs are = are
all_behind (e ∷ es) fs are = all_behind es fs (All-tail IsEntry e (es ++ fs) are)

-- chunks of rows that a table takes
chunks_taken : (chunks : List (List Entry)) (t new : Table)
    → All IsEntry (joined chunks) → AreNew (joined chunks) t → new ≡ with_rows (joined chunks) t → TakesAll t (map rows_of chunks) new
chunks_taken [] t new are fresh is = is
chunks_taken (c ∷ chunks) t new are fresh is = (
  c,
  record { whole = refl; fit = all_front c (joined chunks) are; new = new_front c (joined chunks) t fresh },
  chunks_taken chunks
      (with_rows c t) new (all_behind c (joined chunks) are) (new_behind c (joined chunks) t fresh) (is ∙ with_append c (joined chunks) t),
)

-- ---- rows whose keys rise

-- the first key is none of the others
first_apart : (e : Entry) (es : List Entry) → KeysRise (e ∷ es) → (j : ℕ) → j < length es → key_at es j ≢ e.0
first_apart e es rise j inside same = omega (arith, rise 0 (suc j) (omega arith) (omega arith))

-- no row has a key that the map has
abbrev AreAbsent : List Entry → Map → Type 0
AreAbsent es m = (j : ℕ) → j < length es → finite.get m (key_at es j) ≡ None

absent_later : (e : Entry) (es : List Entry) (m : Map) → KeysRise (e ∷ es) → AreAbsent (e ∷ es) m → AreAbsent es (finite.insert m e.0 e.1)
absent_later e es m rise absent j inside = get_inserted m e.0 e.1 (key_at es j) ∙ ap (λ b. cond b (Some e.1) (finite.get m (key_at es j)))
    (ne_eqb (key_at es j) e.0 (first_apart e es rise j inside)) ∙ absent (suc j) (omega arith)

len_more : (m : Map) (k : ℕ) (v : List ℕ) → finite.get m k ≡ None → finite.len (finite.insert m k v) ≡ finite.len m + 1
len_more m k v absent = len-insert nat_cmp_total m k v ∙ ap (λ (o : Option (List ℕ)). cond (is_some o) (finite.len m) (finite.len m + 1)) absent

pub all_new : (es : List Entry) (t : Table) → KeysRise es → AreAbsent es t.rows → finite.len t.rows + length es ≤ t.max → AreNew es t
all_new [] t rise absent room = tt
all_new (e ∷ es) t rise absent room = (
  record { absent = absent 0 (omega arith); room = omega arith },
  all_new es (with_row e t)
      (rise_tail e es rise) (absent_later e es t.rows rise absent) (omega (arith, len_more t.rows e.0 e.1 (absent 0 (omega arith)))),
)

-- the first that is there
abbrev either : Option (List ℕ) → Option (List ℕ) → Option (List ℕ)
either None o = o
either (Some v) o = Some v

either_none : (o : Option (List ℕ)) → either o None ≡ o
either_none None = refl
either_none (Some v) = refl

-- what rows whose keys differ leave under a key
put_step : (q k : ℕ) (v : List ℕ) (later old : Option (List ℕ))
    → (q ≡ k → later ≡ None) → either later (cond (eqb q k) (Some v) old) ≡ either (cond (eqb q k) (Some v) later) old
put_step q k v later old none = elim (cases_eq q k) [
  | inl same ↦ let first = eq-eqb q k same in let missing = none same in rw (first, missing) refl
  | inr other ↦ let differ = ne_eqb q k other in rw differ refl
]

pub get_with : (es : List Entry) (t : Table) (q : ℕ)
    → KeysRise es → finite.get (with_rows es t).rows q ≡ either (look q es) (finite.get t.rows q)
get_with [] t q rise = refl
get_with (e ∷ es) t q rise =
    get_with es (with_row e t) q (rise_tail e es rise) ∙ ap (λ (o : Option (List ℕ)). either (look q es) o) (get_inserted t.rows e.0 e.1 q)
    ∙ put_step q e.0 e.1 (look q es) (finite.get t.rows q) (λ same.
    ap (λ (n : ℕ). look n es) same ∙ look_none es e.0 (λ j inside. first_apart e es rise j inside))

pub max_with : (es : List Entry) (t : Table) → (with_rows es t).max ≡ t.max
max_with [] t = refl
max_with (e ∷ es) t = max_with es (with_row e t)

-- ---- the keys of a map's entries rise

both_parts : (a b : Bool) → T (a && b) → T a × T b
both_parts true b p = (tt, p)
both_parts false b p = absurd p

less_from : (m n : ℕ) → T (is_lt (nat_cmp m n)) → m < n
less_from m n p = elim (Rattle.std.proofs.lemmas.Bool.cases_lt m n) [
  | inl below ↦ below
  | inr above ↦ absurd (not_less m n above p)
]
  where
    not_less : (m n : ℕ) → n ≤ m → T (is_lt (nat_cmp m n)) → ⊥
    not_less m n above p = elim (cases_eq m n) [
      | inl same ↦ (let a = Rattle.std.proofs.lemmas.Bool.le-ltb m n above in let b = eq-eqb m n same in rw (a, b) at p)
      | inr other ↦ (let a = Rattle.std.proofs.lemmas.Bool.le-ltb m n above in let b = ne_eqb m n other in rw (a, b) at p)
    ]

below_at : (k : ℕ) (es : List Entry) → T (below_all nat_cmp k es) → (j : ℕ) → j < length es → k < key_at es j
below_at k [] below j inside = absurd (omega arith)
below_at k (e ∷ es) below zero inside = less_from k e.0 (both_parts (is_lt (nat_cmp k e.0)) (below_all nat_cmp k es) below).0
below_at k (e ∷ es) below (suc j) inside = below_at k es (both_parts (is_lt (nat_cmp k e.0)) (below_all nat_cmp k es) below).1 j (omega arith)

sorted_rise : (es : List Entry) → T (is_sorted nat_cmp es) → KeysRise es
sorted_rise [] sorted i j lt inside = absurd (omega arith)
sorted_rise (e ∷ es) sorted zero zero lt inside = absurd (omega arith)
sorted_rise (e ∷ es) sorted zero (suc j) lt inside =
    below_at e.0 es (both_parts (below_all nat_cmp e.0 es) (is_sorted nat_cmp es) sorted).0 j (omega arith)
sorted_rise (e ∷ es) sorted (suc i) zero lt inside = absurd (omega arith)
sorted_rise (e ∷ es) sorted (suc i) (suc j) lt inside =
    sorted_rise es (both_parts (below_all nat_cmp e.0 es) (is_sorted nat_cmp es) sorted).1 i j (omega arith) (omega arith)

pub entries_rise : (m : Map) → KeysRise (finite.entries m)
entries_rise m = sorted_rise (finite.entries m) (entries_sorted m)

-- ---- blocks are a table

same_tables : (t u : Table) → t.max ≡ u.max → t.rows ≡ u.rows → t ≡ u
same_tables t u max rows = λ i. record { max = max i; rows = rows i }

all_back : (t : Table) → t ≡ with_rows (finite.entries t.rows) (record { max = t.max; rows = finite.empty })
all_back t = let es = finite.entries t.rows in let none : Table = record { max = t.max; rows = finite.empty } in
    same_tables t (with_rows es none) (sym (max_with es none)) (same_maps t.rows (with_rows es none).rows (λ q. get-entries t.rows q
    ∙ find_looks q es ∙ sym (either_none (look q es)) ∙ ap (λ (o : Option (List ℕ)). either (look q es) o) (sym (get-empty nat_cmp q))
    ∙ sym (get_with es none q (entries_rise t.rows))))

pub blocks_are_table : BlocksAreTable
blocks_are_table per t some fit few = let es = finite.entries t.rows in let none : Table = record { max = t.max; rows = finite.empty } in
    let joins = joined_chunks per es some in
    let room : finite.len none.rows + length es ≤ t.max = omega (arith, len-empty nat_cmp (List ℕ), len-entries t.rows, few) in
    let new : AreNew es none = all_new es none (entries_rise t.rows) (λ j inside. get-empty nat_cmp (key_at es j)) room in
    chunks_taken (chunks_of per es) none t (rw (sym joins) at fit) (rw (sym joins) at new)
    (all_back t ∙ ap (λ (l : List Entry). with_rows l none) (sym joins))

-- ---- a body that is read row by row

-- what is left of a body is another row and the rest
pub taken_more : (t : Table) (e : Entry) (bytes rest : List ℕ) (more : List Entry)
    → IsEntry e → bytes ≡ row_of e → IsNew t e.0 → TableTakes (with_row e t) rest more → TableTakes t (bytes ++ rest) (e ∷ more)
taken_more t e bytes rest more is same fresh takes = record {
  whole = λ i. same i ++ takes.whole i;
  fit = All-cons IsEntry e more is takes.fit;
  new = (fresh, takes.new);
}

-- no rows are left where none are
pub taken_none : (t : Table) → TableTakes t [] []
taken_none t = record { whole = refl; fit = All-nil IsEntry; new = tt }

-- where the first row can't be taken, or the rest can't, nothing can
pub refused_first : (t : Table) (bytes rest : List ℕ) (es : List Entry)
    → length bytes ≡ 64 → ((e : Entry) → IsEntry e → bytes ≡ row_of e → IsNew t e.0 → ⊥) → TableTakes t (bytes ++ rest) es → ⊥
refused_first t bytes rest [] size refused takes = omega (arith, ap length takes.whole, length-append bytes rest)
refused_first t bytes rest (e ∷ es) size refused takes = let is = All-head IsEntry e es takes.fit in
    let parts = same_front bytes (row_of e) rest (rows_of es) (size ∙ sym (length-row_of e is)) takes.whole in
    refused e is parts.0 takes.new.0

pub refused_rest : (t : Table) (e : Entry) (bytes rest : List ℕ) (es : List Entry)
    → IsEntry e → bytes ≡ row_of e → ((more : List Entry) → TableTakes (with_row e t) rest more → ⊥) → TableTakes t (bytes ++ rest) es → ⊥
refused_rest t e bytes rest [] is same refused takes =
    omega (arith, ap length takes.whole, length-append bytes rest, ap length same, length-row_of e is)
refused_rest t e bytes rest (f ∷ es) is same refused takes = let first = All-head IsEntry f es takes.fit in
    let parts = row_split e f rest (rows_of es) is first (ap (λ (l : List ℕ). l ++ rest) (sym same) ∙ takes.whole) in
    let key : f ≡ e = sym parts.0 in
    refused es (record { whole = parts.1; fit = All-tail IsEntry f es takes.fit; new = rw key at takes.new.1 })

-- a body of whole rows has a multiple of 64 bytes
pub whole_rows : (t : Table) (body : List ℕ) (es : List Entry) → TableTakes t body es → length body ≡ 64 * length es
whole_rows t body es takes = ap length takes.whole ∙ length-rows_of es takes.fit

-- what the rest of a body gives a table, the whole body gives the first one
pub record Carries (first t : Table) (body rest : List ℕ) : Type 0 where
  pub whole : (more : List Entry)
      → TableTakes t rest more → (entries : List Entry) × TableTakes first body entries × (with_rows more t ≡ with_rows entries first)
  pub none : ((more : List Entry) → TableTakes t rest more → ⊥) → (entries : List Entry) → TableTakes first body entries → ⊥

pub carries_more : (first t : Table) (body bytes rest : List ℕ) (e : Entry)
    → IsEntry e → bytes ≡ row_of e → IsNew t e.0 → Carries first t body (bytes ++ rest) → Carries first (with_row e t) body rest
carries_more first t body bytes rest e is same fresh carries = record {
  whole = λ more takes. carries.whole (e ∷ more) (taken_more t e bytes rest more is same fresh takes);
  none = λ no. carries.none (λ es takes. refused_rest t e bytes rest es is same no takes);
}

-- the rest of a body, cut after its first row
pub row_cut : (body : List ℕ) (k : ℕ) → drop (64 * k) body ≡ take (64 * (k + 1) - 64 * k) (drop (64 * k) body) ++ drop (64 * (k + 1)) body
row_cut body k = let size : 64 * (k + 1) - 64 * k ≡ 64 = omega arith in
    let end : 64 * k + (64 * (k + 1) - 64 * k) ≡ 64 * (k + 1) = omega arith in
    sym (take-append-drop (64 * (k + 1) - 64 * k) (drop (64 * k) body))
    ∙ ap (λ (l : List ℕ). take (64 * (k + 1) - 64 * k) (drop (64 * k) body)
    ++ l) (drop-drop (64 * (k + 1) - 64 * k) (64 * k) body ∙ ap (λ (n : ℕ). drop n body) end)
