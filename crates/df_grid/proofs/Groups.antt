-- The counts of captured blocks: what each stands for, how the next one is made, and that they stay right.
use mir.Val.{bool_byte}
use Rattle.std.{proofs.{Common.{◌≡◌, ℕ, zero, suc, ◌+◌, ◌*◌, ◌%◌, ◌≤◌, Bool, Bor, true, false, cond, Option, Some, None, List, [], ◌∷◌, ◌++◌, length, take, set, get_or, refl, sym, ap, ◌∙◌, arith}, lemmas.List.{length-append, length-set}, lemmas.List.Sums.{sum_by-cons}, lemmas.Option.{slice_get-get_or, slice_get_past, slice_get_read, slice_get_within}}, specs.{Prelude.{IfSome, IsSome, slice_get}, List.{count_by}, Option.{option_copied}, Slice.{IsItemAt}}}
use Rattle.{df_model.specs.Blocks.{sum_at}, df_units.specs.Meaning.{number_of}, df_trailer.specs.Writing.{referenced_among}}
use Rattle.df_grid.{specs.{declared.entry.Entry.{Entry}, Table.{AreCounts, IsCounted, captured_among, is_captured, picked}}, proofs.{Counted.{counted_from}, Picks.{pick_at}}}

-- ---- what a count stands for

count_front : (e : Entry) (es : List Entry) → count_by is_captured (e ∷ es) ≡ cond e.captured 1 0 + count_by is_captured es
count_front e es = sum_by-cons (λ x. cond (is_captured x) 1 0) e es

picked_count : (s : ℕ) (es : List Entry) → length (picked is_captured s es) ≡ count_by is_captured es
picked_count s [] = refl
picked_count s (e ∷ es) = go e.captured (picked_count (s + 1) es) ∙ sym (count_front e es)
  where
    go : (b : Bool) → length (picked is_captured (s + 1) es) ≡ count_by is_captured es → length (cond b
        ((s, number_of e.checksum) ∷ picked is_captured (s + 1) es) (picked is_captured (s + 1) es)) ≡ cond b 1 0 + count_by is_captured es
    go true more = omega (arith, more)
    go false more = omega (arith, more)

length_first : (n : ℕ) (es : List Entry) → n ≤ length es → length (take n es) ≡ n
length_first zero es few = refl
length_first (suc n) [] few = absurd (omega arith)
length_first (suc n) (e ∷ es) few = omega (arith, length_first n es (omega arith))

get_first : (n i : ℕ) (es : List Entry) (e : Entry) → slice_get (take n es) i ≡ Some e → slice_get es i ≡ Some e
get_first zero i es e at = absurd (cc)
get_first (suc n) i [] e at = absurd (cc)
get_first (suc n) zero (x ∷ es) e at = at
get_first (suc n) (suc i) (x ∷ es) e at = get_first n i es e at

pub among : (es : List Entry) (n : ℕ) → n ≤ length es → captured_among es n ≡ referenced_among (λ a. sum_at a (picked is_captured 1 es)) n
among es n few = sym (picked_count 1 (take n es))
    ∙ counted_from is_captured (λ place. sum_at (suc place) (picked is_captured 1 es)) 1 (take n es) (λ i e at.
    pick_at is_captured (suc i) 1 i es e (omega arith) (get_first n i es e at))
    ∙ ap (λ (k : ℕ). referenced_among (λ a. sum_at a (picked is_captured 1 es)) k) (length_first n es few)

-- ---- the next count

pub as_bit : (b : Bool) → bool_byte b ≡ cond b 1 0
as_bit true = refl
as_bit false = refl

pub one_more : (n : ℕ) (es : List Entry) (e : Entry)
    → slice_get es n ≡ Some e → captured_among es (n + 1) ≡ captured_among es n + cond e.captured 1 0
one_more n es e at = (let same : n + 1 ≡ suc n = omega arith in ap (λ (k : ℕ). captured_among es k) same) ∙ go n es at
  where
    go : (n : ℕ) (es : List Entry) → slice_get es n ≡ Some e → captured_among es (suc n) ≡ captured_among es n + cond e.captured 1 0
    go n [] at = absurd (cc)
    go zero (x ∷ es) at = let same : x ≡ e = cc in
        let bit : cond {A = ℕ} x.captured 1 0 ≡ cond e.captured 1 0 = ap (λ (y : Entry). cond y.captured 1 0) same in
        omega (arith, count_front x [], bit)
    go (suc n) (x ∷ es) at = omega (arith, go n es at, count_front x (take (suc n) es), count_front x (take n es))

get_more : {P : Type 0} (xs : List ℕ) (x y g : ℕ)
    → slice_get (xs ++ x ∷ []) g ≡ Some y → (slice_get xs g ≡ Some y → P) → (g ≡ length xs → x ≡ y → P) → P
get_more {P} [] x y zero at old new = new refl (let same : x ≡ y = cc in same)
get_more {P} [] x y (suc g) at old new = absurd (cc)
get_more {P} (z ∷ xs) x y zero at old new = old at
get_more {P} (z ∷ xs) x y (suc g) at old new = get_more xs x y g at old (λ there same. new (omega (arith, there)) same)

pub next_count : (es : List Entry) (n count : ℕ) (counts : List ℕ)
    → AreCounts es n counts → (n + 1) % 256 ≡ 0 → count ≡ captured_among es (n + 1) → AreCounts es (n + 1) (counts ++ count ∷ [])
next_count es n count counts so full is = record {
  size = omega (arith, so.size, full, length-append counts (count ∷ []));
  each = λ g x at. get_more counts count x g at (λ old. so.each g x old) (λ there same.
      (let end : n + 1 ≡ 256 * (g + 1) = omega (arith, there, so.size, full) in sym same ∙ is ∙ ap (λ (k : ℕ). captured_among es k) end));
}

pub same_counts : (es : List Entry) (n : ℕ) (counts : List ℕ) → AreCounts es n counts → ((n + 1) % 256 ≡ 0 → ⊥) → AreCounts es (n + 1) counts
same_counts es n counts so partial = record { size = omega (arith, so.size, partial); each = so.each }

-- ---- they stay right

module _ (e old : Entry) (same : e.captured ≡ old.captured) where
  pub count_kept : (n i : ℕ) (es : List Entry) → slice_get es i ≡ Some old → captured_among (set es i e) n ≡ captured_among es n
  count_kept zero i es at = refl
  count_kept (suc n) i [] at = refl
  count_kept (suc n) zero (x ∷ es) at = let here : old ≡ x = cc in
      let one : cond {A = ℕ} e.captured 1 0 ≡ cond old.captured 1 0 = ap (λ (b : Bool). cond b 1 0) same in
      let two : cond {A = ℕ} old.captured 1 0 ≡ cond x.captured 1 0 = ap (λ (y : Entry). cond y.captured 1 0) here in
      omega (arith, one, two, count_front e (take n es), count_front x (take n es))
  count_kept (suc n) (suc i) (x ∷ es) at = omega (arith, count_kept n i es at, count_front x (take n (set es i e)), count_front x (take n es))

-- after an entry is replaced by one that is captured where the old one was
pub counts_kept : (es : List Entry) (left counts : List ℕ) → IsCounted es left counts → (i : ℕ) (e old : Entry) → slice_get es i ≡ Some old
    → e.captured ≡ old.captured → (left2 : List ℕ) → ((left2 ≡ [] → ⊥) → left ≡ [] → ⊥) → IsCounted (set es i e) left2 counts
counts_kept es left counts is i e old at same left2 coming = record {
  few = omega (arith, is.few, length-set es i e);
  each = λ g count found. (let was = is.each g count found in
      (omega (arith, was.0, length-set es i e), was.1 ∙ sym (count_kept e old same (256 * (g + 1)) i es at)));
  all = λ some. omega (arith, is.all (coming some), length-set es i e);
}

-- where there are none, and none is needed
pub none_counted : (es : List Entry) → length es ≤ 16384 → IsCounted es [] []
none_counted es few = record { few = few; each = λ g count at. absurd (cc); all = λ some. absurd (some refl) }

-- where all were made
pub all_counted : (es : List Entry) (left counts : List ℕ) → length es ≤ 16384 → AreCounts es (length es) counts → IsCounted es left counts
all_counted es left counts few so = record {
  few = few;
  each = λ g count at. (omega (arith, slice_get_within counts g count at, so.size), so.each g count at);
  all = λ some. so.size;
}

-- ---- what is answered

pub copied_at : (xs : List ℕ) (i : ℕ) (r : Option (Bor ℕ)) → IsItemAt xs i r → option_copied r ≡ slice_get xs i
copied_at xs i None at = sym (slice_get_past xs i at.3)
copied_at xs i (Some x) at = sym (slice_get_read xs (length xs) i x.now refl at.3.0 at.1)

pub count_is : (es : List Entry) (left counts : List ℕ) → IsCounted es left counts → (o : Option ℕ) (i n : ℕ)
    → o ≡ slice_get counts i → n ≡ i + 1 → IfSome o (λ count. count ≡ referenced_among (λ a. sum_at a (picked is_captured 1 es)) (256 * n))
count_is es left counts is None i n at same = tt
count_is es left counts is (Some count) i n at same = let found = is.each i count (sym at) in
    let all : 256 * (i + 1) ≡ 256 * n = omega (arith, same) in
    found.1 ∙ among es (256 * (i + 1)) found.0 ∙ ap (λ (k : ℕ). referenced_among (λ a. sum_at a (picked is_captured 1 es)) k) all

pub count_there : (es : List Entry) (left counts : List ℕ) → IsCounted es left counts
    → (left ≡ [] → ⊥) → (o : Option ℕ) (i n : ℕ) → o ≡ slice_get counts i → n ≡ i + 1 → 256 * n ≤ length es → IsSome o
count_there es left counts is some None i n at same few =
    let there : slice_get counts i ≡ Some (get_or counts i 0) = slice_get-get_or counts i 0 (omega (arith, is.all some, same, few)) in
    absurd (cc)
count_there es left counts is some (Some count) i n at same few = refl
