-- The free addresses of a set: the least one is the first, and as it is taken the others stay.
use Rattle.std.{proofs.{Common.{◌≡◌, ℕ, zero, suc, ◌+◌, ◌-◌, ◌<◌, ◌==◌, ◌||◌, not, Bool, true, false, cond, Some, List, [], ◌∷◌, ◌++◌, length, take, drop, set, refl, sym, ap, ◌∙◌, arith, eqb-true}, lemmas.List.{length-set}, lemmas.List.Sums.{sum_by-cons}, lemmas.Bool.{eqb-false}}, specs.Prelude.{slice_get}}
use Rattle.{df_base.proofs.Laws.{get_set_other, or_false}, df_freeset.specs.Addresses.{AreAllTaken, IsLeastFree, count_free}}
use Rattle.{df_model.specs.{Work.{is_in}, Sense.{RiseFrom}}, df_grid.{specs.Table.{AreTaken, open_from}, proofs.Single.{get_set_same}}}

pub open_count : (s : ℕ) (taken : List Bool) → length (open_from s taken) ≡ count_free taken
open_count s [] = refl
open_count s (true ∷ ts) = omega (arith, open_count (s + 1) ts, sum_by-cons (λ x. cond (not x) 1 0) true ts)
open_count s (false ∷ ts) = omega (arith, open_count (s + 1) ts, sum_by-cons (λ x. cond (not x) 1 0) false ts)

-- where all below are taken, the first one that is free is the first of the list
first_open : (s i : ℕ) (taken : List Bool) → slice_get taken i ≡ Some false
    → ((j : ℕ) → j < i → slice_get taken j ≡ Some true) → open_from s taken ≡ (s + i) ∷ open_from s (set taken i true)
first_open s i [] free low = absurd (cc)
first_open s zero (t ∷ ts) free low = let is : t ≡ false = cc in
    ap (λ (b : Bool). cond b (open_from (s + 1) ts) (s ∷ open_from (s + 1) ts)) is ∙ ap (λ (k : ℕ). k ∷ open_from (s + 1) ts) (omega arith)
first_open s (suc i) (t ∷ ts) free low = let here : Some t ≡ Some true = low 0 (omega arith) in let is : t ≡ true = cc in
    ap (λ (b : Bool). cond b (open_from (s + 1) ts) (s ∷ open_from (s + 1) ts)) is
    ∙ first_open (s + 1) i ts free (λ j less. low (suc j) (omega arith))
    ∙ ap (λ (k : ℕ). k ∷ open_from (s + 1) (set ts i true)) (omega arith)
    ∙ ap (λ (b : Bool). (s + suc i) ∷ cond b (open_from (s + 1) (set ts i true)) (s ∷ open_from (s + 1) (set ts i true))) (sym is)

pub least_first : (taken : List Bool) (a : ℕ) → IsLeastFree taken a → open_from 1 taken ≡ a ∷ open_from 1 (set taken (a - 1) true)
least_first taken a least = first_open 1 (a - 1) taken least.free (λ j less.
    ap (λ (k : ℕ). slice_get taken k) (omega arith) ∙ least.below (suc j) (omega arith) (omega (arith, least.has.0, less)))
    ∙ ap (λ (k : ℕ). k ∷ open_from 1 (set taken (a - 1) true)) (omega (arith, least.has.0))

none_open : (s : ℕ) (taken : List Bool) → ((j : ℕ) → j < length taken → slice_get taken j ≡ Some true) → open_from s taken ≡ []
none_open s [] all = refl
none_open s (t ∷ ts) all = let here : Some t ≡ Some true = all 0 (omega arith) in let is : t ≡ true = cc in
    ap (λ (b : Bool). cond b (open_from (s + 1) ts) (s ∷ open_from (s + 1) ts)) is ∙ none_open (s + 1) ts (λ j less. all (suc j) (omega arith))

pub all_none : (taken : List Bool) → AreAllTaken taken → open_from 1 taken ≡ []
all_none taken all = none_open 1 taken (λ j less. ap (λ (k : ℕ). slice_get taken k) (omega arith) ∙ all (suc j) (omega arith, omega arith))

-- ---- one after the other

take_next : (n a : ℕ) (xs rest : List ℕ) → drop n xs ≡ a ∷ rest → take (suc n) xs ≡ take n xs ++ a ∷ []
take_next zero a [] rest is = absurd (cc)
take_next zero a (x ∷ xs) rest is = let same : x ≡ a = cc in ap (λ (k : ℕ). k ∷ []) same
take_next (suc n) a [] rest is = absurd (cc)
take_next (suc n) a (x ∷ xs) rest is = ap (λ (l : List ℕ). x ∷ l) (take_next n a xs rest is)

take_more : (n a : ℕ) (xs rest : List ℕ) → drop n xs ≡ a ∷ rest → take (n + 1) xs ≡ take n xs ++ a ∷ []
take_more n a xs rest is = (let e : n + 1 ≡ suc n = omega arith in ap (λ (k : ℕ). take k xs) e) ∙ take_next n a xs rest is

drop_next : (n a : ℕ) (xs rest : List ℕ) → drop n xs ≡ a ∷ rest → drop (suc n) xs ≡ rest
drop_next zero a [] rest is = absurd (cc)
drop_next zero a (x ∷ xs) rest is = let same : xs ≡ rest = cc in same
drop_next (suc n) a [] rest is = absurd (cc)
drop_next (suc n) a (x ∷ xs) rest is = drop_next n a xs rest is

drop_more : (n a : ℕ) (xs rest : List ℕ) → drop n xs ≡ a ∷ rest → drop (n + 1) xs ≡ rest
drop_more n a xs rest is = (let e : n + 1 ≡ suc n = omega arith in ap (λ (k : ℕ). drop k xs) e) ∙ drop_next n a xs rest is

in_more : (k a : ℕ) (xs : List ℕ) → is_in k (xs ++ a ∷ []) ≡ (is_in k xs || (k == a))
in_more k a [] = go (k == a)
  where
    go : (b : Bool) → (b || false) ≡ (false || b)
    go true = refl
    go false = refl
in_more k a (x ∷ xs) = ap (λ (b : Bool). (k == x) || b) (in_more k a xs) ∙ go (k == x) (is_in k xs) (k == a)
  where
    go : (b c d : Bool) → (b || (c || d)) ≡ ((b || c) || d)
    go true c d = refl
    go false c d = refl

pub none_taken : (taken : List Bool) → AreTaken 0 taken taken []
none_taken taken = record { least = refl; rest = refl; size = refl; each = λ a i b there at. at ∙ ap Some (sym (or_false b)) }

with_true : (x y : Bool) → (x || (y || true)) ≡ true
with_true true y = refl
with_true false true = refl
with_true false false = refl

with_false : (x y : Bool) → (x || (y || false)) ≡ (x || y)
with_false true y = refl
with_false false true = refl
with_false false false = refl

module _ (a : ℕ) (after : List Bool) (left : List ℕ)
    (least : IsLeastFree after a) (k i : ℕ) (b : Bool) (there : k ≡ suc i) (at : slice_get after i ≡ Some (b || is_in k left)) where
  each_case : (e : Bool) → (k == a) ≡ e → slice_get (set after (a - 1) true) i ≡ Some (b || (is_in k left || e))
  each_case true same = let here : k ≡ a = eqb-true k a same in
      ap (λ (j : ℕ). slice_get (set after (a - 1) true) j) (omega (arith, there, here))
      ∙ get_set_same after (a - 1) false true least.free ∙ ap Some (sym (with_true b (is_in k left)))
  each_case false same = let other : k ≡ a → ⊥ = eqb-false k a same in
      get_set_other after (a - 1) i true (λ here. other (omega (arith, there, here, least.has.0)))
      ∙ at ∙ ap Some (sym (with_false b (is_in k left)))

  each_one : slice_get (set after (a - 1) true) i ≡ Some (b || is_in k (left ++ a ∷ []))
  each_one = each_case (k == a) refl ∙ ap (λ (e : Bool). Some (b || e)) (sym (in_more k a left))

pub one_taken : (n a : ℕ) (before after : List Bool) (left : List ℕ)
    → AreTaken n before after left → IsLeastFree after a → AreTaken (n + 1) before (set after (a - 1) true) (left ++ a ∷ [])
one_taken n a before after left so least =
    let first : drop n (open_from 1 before) ≡ a ∷ open_from 1 (set after (a - 1) true) = sym so.rest ∙ least_first after a least in record {
      least = ap (λ (l : List ℕ). l ++ a ∷ []) so.least ∙ sym (take_more n a (open_from 1 before) (open_from 1 (set after (a - 1) true)) first);
      rest = sym (drop_more n a (open_from 1 before) (open_from 1 (set after (a - 1) true)) first);
      size = length-set after (a - 1) true ∙ so.size;
      each = λ k i b there at. each_one a after left least k i b there (so.each k i b there at);
    }

-- ---- they rise

pub open_rise : (s : ℕ) (taken : List Bool) → RiseFrom s (open_from s taken)
open_rise s [] = tt
open_rise s (true ∷ ts) = lower s (open_from (s + 1) ts) (open_rise (s + 1) ts)
  where
    lower : (s : ℕ) (xs : List ℕ) → RiseFrom (s + 1) xs → RiseFrom s xs
    lower s [] rise = tt
    lower s (x ∷ xs) rise = (omega (arith, rise.0), rise.1)
open_rise s (false ∷ ts) = (omega arith, open_rise (s + 1) ts)
