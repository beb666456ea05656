-- The turns of loops over the table: a part is changed, a part isn't yet.
use Rattle.std.{proofs.{Common.{◌≡◌, ℕ, zero, suc, ◌+◌, ◌<◌, ◌≤◌, ◌==◌, ◌||◌, Bool, true, false, cond, nat_lt, Some, List, [], ◌∷◌, ◌++◌, length, map, take, drop, set, refl, sym, ap, ◌∙◌, arith, lt-ltb, le-ltb, eqb-true}, lemmas.List.{length-drop, length-set, length-take}, lemmas.List.Edits.{map_over_more}, lemmas.Option.{get_or_from_slice_get}, lemmas.Bool.Decides.{nat_tests}, lemmas.Bool.{cond-true, cond-false, eqb-false}}, specs.{Prelude.{slice_get}, List.{filter}}}
use Rattle.{df_base.proofs.Laws.{get_set_other}, df_freeset.specs.Addresses.{AreAllTaken, count_free}, df_units.specs.Meaning.{number_of}}
use Rattle.df_grid.{specs.{declared.entry.Entry.{Entry}, Entries.{is_marked}, Table.{AreFinished, AreMarked, AreTaken, finishing, open_from, picked}}, proofs.{Single.{get_set_same, set_back}, Free.{all_none, open_count}}}

-- ---- each entry is changed

pub part_length : (f : Entry → Entry) (n : ℕ) (xs : List Entry) → length (map f (take n xs) ++ drop n xs) ≡ length xs
part_length f zero xs = refl
part_length f (suc n) [] = refl
part_length f (suc n) (x ∷ xs) = omega (arith, part_length f n xs)

pub part_all : (f : Entry → Entry) (n : ℕ) (xs : List Entry) → length xs ≤ n → map f (take n xs) ++ drop n xs ≡ map f xs
part_all f zero [] le = refl
part_all f zero (x ∷ xs) le = absurd (omega arith)
part_all f (suc n) [] le = refl
part_all f (suc n) (x ∷ xs) le = ap (λ (l : List Entry). f x ∷ l) (part_all f n xs (omega arith))

pub part_more : (f : Entry → Entry) (n i : ℕ) (xs ys : List Entry) (x : Entry) → i ≡ n → n < length xs
    → ys ≡ map f (take n xs) ++ drop n xs → slice_get ys i ≡ Some x → set ys i (f x) ≡ map f (take (n + 1) xs) ++ drop (n + 1) xs
part_more f n i xs ys x same less so at = let here : slice_get ys n ≡ Some x = ap (λ (k : ℕ). slice_get ys k) (sym same) ∙ at in
    ap (λ (k : ℕ). set ys k (f x)) same ∙ map_over_more f xs ys n x less so (sym (get_or_from_slice_get ys n x x here))

-- ---- a capture ends

pub none_finished : (es : List Entry) (taken : List Bool) → length taken ≡ length es → AreFinished 0 es es taken
none_finished es taken size = record { entries = refl; size = size; holds = λ i e less at. absurd (omega arith) }

module _ (n i : ℕ) (before es : List Entry) (taken : List Bool)
    (x : Entry) (so : AreFinished n before es taken) (same : i ≡ n) (less : n < length before) (at : slice_get es i ≡ Some x) where
  abbrev turned : List Bool
  turned = set taken i (is_marked (finishing x))

  there : (b : Bool) → slice_get taken i ≡ Some b → slice_get turned i ≡ Some (is_marked (finishing x))
  there b old = get_set_same taken i b (is_marked (finishing x)) old

  some_bit : (ts : List Bool) (k : ℕ) → k < length ts → (b : Bool) × (slice_get ts k ≡ Some b)
  some_bit [] k few = absurd (omega arith)
  some_bit (t ∷ ts) zero few = (t, refl)
  some_bit (t ∷ ts) (suc k) few = some_bit ts k (omega arith)

  holds_at : (j : ℕ) (e : Entry)
      → j < n + 1 → slice_get (set es i (finishing x)) j ≡ Some e → (b : Bool) → (nat_lt j n) ≡ b → slice_get turned j ≡ Some (is_marked e)
  holds_at j e few found true low =
      let apart : j ≡ i → ⊥ = λ eq. (let low2 : nat_lt j n ≡ false = le-ltb j n (omega (arith, eq, same)) in cc) in
      get_set_other taken i j (is_marked (finishing x)) apart
      ∙ so.holds j e (low_is j n low) (sym (get_set_other es i j (finishing x) apart) ∙ found)
    where
      low_is : (a b : ℕ) → nat_lt a b ≡ true → a < b
      low_is a b is = grind (arith, nat_tests)
  holds_at j e few found false high = let index : j ≡ i = omega (arith, few, same, high_is j n high) in
      let old = some_bit taken i (omega (arith, same, less, so.size)) in let entry : Some (finishing x) ≡ Some e =
      sym (get_set_same es i x (finishing x) at) ∙ ap (λ (k : ℕ). slice_get (set es i (finishing x)) k) (sym index) ∙ found in
      let is : finishing x ≡ e = cc in
      ap (λ (k : ℕ). slice_get turned k) index ∙ there old.0 old.1 ∙ ap (λ (y : Entry). Some (is_marked y)) is
    where
      high_is : (a b : ℕ) → nat_lt a b ≡ false → b ≤ a
      high_is a b is = grind (arith, nat_tests)

  pub more_finished : AreFinished (n + 1) before (set es i (finishing x)) turned
  more_finished = record {
    entries = part_more finishing n i before es x same less so.entries at;
    size = length-set taken i (is_marked (finishing x)) ∙ so.size;
    holds = λ j e few found. holds_at j e few found (nat_lt j n) refl;
  }

-- no entry is marked that wasn't
pub was_marked : (e : Entry) → is_marked (finishing e) ≡ true → is_marked e ≡ true
was_marked e is = go e.live e.captured e.written (e.durable || e.chained) is
  where
    go : (l c w rest : Bool) → (l || (false || (false || (c || w)))) ≡ true → (l || (c || (w || rest))) ≡ true
    go true c w rest is = refl
    go false true w rest is = refl
    go false false true rest is = refl
    go false false false rest is = absurd (cc)

-- an address stays taken where its entry is marked when both are replaced
pub marked_set : (es : List Entry) (taken : List Bool) (i : ℕ) (x y : Entry)
    → slice_get es i ≡ Some x → AreMarked es taken → AreMarked (set es i y) (set taken i (is_marked y))
marked_set es taken i x y at each j e found = go (j == i) refl
  where
    go : (b : Bool) → (j == i) ≡ b → slice_get (set taken i (is_marked y)) j ≡ Some (is_marked e)
    go true same = let index : j ≡ i = eqb-true j i same in
        let entry : Some y ≡ Some e = sym (get_set_same es i x y at) ∙ ap (λ (k : ℕ). slice_get (set es i y) k) (sym index) ∙ found in
        let is : y ≡ e = cc in ap (λ (k : ℕ). slice_get (set taken i (is_marked y)) k) index
        ∙ get_set_same taken i (is_marked x) (is_marked y) (each i x at) ∙ ap (λ (z : Entry). Some (is_marked z)) is
    go false same = let apart : j ≡ i → ⊥ = eqb-false j i same in
        get_set_other taken i j (is_marked y) apart ∙ each j e (sym (get_set_other es i j y apart) ∙ found)

-- what a finished entry does to the free set
pub still_taken : (taken : List Bool) (i : ℕ) (e : Entry)
    → slice_get taken i ≡ Some (is_marked e) → is_marked (finishing e) ≡ true → taken ≡ set taken i (is_marked (finishing e))
still_taken taken i e at is = let same : is_marked e ≡ is_marked (finishing e) = was_marked e is ∙ sym is in
    sym (set_back taken i (is_marked (finishing e)) (at ∙ ap Some same))

-- ---- the least addresses are taken

pub few_taken : (n : ℕ) (before after : List Bool) (left : List ℕ) → AreTaken n before after left → length left ≤ n
few_taken n before after left so = omega (arith, ap length so.least, length-take n (open_from 1 before))

pub none_left : (n all : ℕ) (before after : List Bool) (left : List ℕ)
    → AreTaken n before after left → AreAllTaken after → n < all → all ≤ count_free before → ⊥
none_left n all before after left so taken less enough = let gone : drop n (open_from 1 before) ≡ [] = sym so.rest ∙ all_none after taken in
    omega (arith, less, enough, ap length gone, length-drop n (open_from 1 before), open_count 1 before)

-- ---- the first marked one

pub drop_there : (es : List Entry) (i : ℕ) (e : Entry) → slice_get es i ≡ Some e → drop i es ≡ e ∷ drop (i + 1) es
drop_there es i e at = go es i at ∙ (let same : suc i ≡ i + 1 = omega arith in ap (λ (k : ℕ). e ∷ drop k es) same)
  where
    go : (es : List Entry) (i : ℕ) → slice_get es i ≡ Some e → drop i es ≡ e ∷ drop (suc i) es
    go [] i at = absurd (cc)
    go (x ∷ es) zero at = let same : x ≡ e = cc in ap (λ (y : Entry). y ∷ es) same
    go (x ∷ es) (suc i) at = go es i at

pub drop_past : (es : List Entry) (i : ℕ) → length es ≤ i → drop i es ≡ []
drop_past [] zero le = refl
drop_past [] (suc i) le = refl
drop_past (e ∷ es) zero le = absurd (omega arith)
drop_past (e ∷ es) (suc i) le = drop_past es i (omega arith)

module _ (test : Entry → Bool) (above : ℕ) where
  all_above : (s : ℕ) (es : List Entry) → above < s → filter (λ x. nat_lt above x.0) (picked test s es) ≡ picked test s es
  all_above s [] less = refl
  all_above s (e ∷ es) less = go (test e) (all_above (s + 1) es (omega arith))
    where
      go : (b : Bool) → filter (λ x. nat_lt above x.0) (picked test (s + 1) es) ≡ picked test (s + 1) es → filter (λ x. nat_lt above x.0) (cond b ((s, number_of e.checksum) ∷ picked test (s + 1) es) (picked test (s + 1) es)) ≡ cond b ((s, number_of e.checksum) ∷ picked test (s + 1) es) (picked test (s + 1) es)
      go true more = cond-true (nat_lt above s) _ (filter (λ x. nat_lt above x.0) (picked test (s + 1) es)) (lt-ltb above s less)
          ∙ ap (λ (l : List (ℕ × ℕ)). (s, number_of e.checksum) ∷ l) more
      go false more = more

  pub pick_above : (s k : ℕ) (es : List Entry)
      → above + 1 ≡ s + k → filter (λ x. nat_lt above x.0) (picked test s es) ≡ picked test (s + k) (drop k es)
  pick_above s zero es same = all_above s es (omega arith) ∙ (let e : s ≡ s + 0 = omega arith in ap (λ (n : ℕ). picked test n es) e)
  pick_above s (suc k) [] same = refl
  pick_above s (suc k) (e ∷ es) same = go (test e)
      ∙ pick_above (s + 1) k es (omega arith) ∙ (let n : s + 1 + k ≡ s + suc k = omega arith in ap (λ (m : ℕ). picked test m (drop k es)) n)
    where
      go : (b : Bool) → filter (λ x. nat_lt above x.0) (cond b ((s, number_of e.checksum) ∷ picked test (s + 1) es) (picked test (s + 1) es)) ≡ filter (λ x. nat_lt above x.0) (picked test (s + 1) es)
      go true = cond-false (nat_lt above s) _ (filter (λ x. nat_lt above x.0) (picked test (s + 1) es)) (le-ltb above s (omega arith))
      go false = refl

-- the entry at the front passes
pub front_passes : (test : Entry → Bool) (s : ℕ) (e : Entry) (es : List Entry)
    → test e ≡ true → slice_get (picked test s (e ∷ es)) 0 ≡ Some (s, number_of e.checksum)
front_passes test s e es passes =
    ap (λ (b : Bool). slice_get (cond b ((s, number_of e.checksum) ∷ picked test (s + 1) es) (picked test (s + 1) es)) 0) passes

pub front_counts : (test : Entry → Bool) (s : ℕ) (e : Entry) (es : List Entry)
    → test e ≡ true → length (picked test s (e ∷ es)) ≡ suc (length (picked test (s + 1) es))
front_counts test s e es passes =
    ap (λ (b : Bool). length (cond b ((s, number_of e.checksum) ∷ picked test (s + 1) es) (picked test (s + 1) es))) passes

pub front_fails : (test : Entry → Bool) (s : ℕ) (e : Entry) (es : List Entry)
    → test e ≡ false → picked test s (e ∷ es) ≡ picked test (s + 1) es
front_fails test s e es fails = ap (λ (b : Bool). cond b ((s, number_of e.checksum) ∷ picked test (s + 1) es) (picked test (s + 1) es)) fails
