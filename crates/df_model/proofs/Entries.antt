-- Maps as lists of their entries.
use Rattle.std.{proofs.{Common.{◌≡◌, ℕ, zero, suc, map, ◌||◌, ◌+◌, ◌<◌, ◌≤◌, ◌==◌, Bool, true, false, cond, if◌then◌else◌, List, [], ◌∷◌, Option, Some, None, refl, sym, ◌∙◌, ap, subst, arith, eqb-true}, lemmas.Bool.{eqb-false}}, specs.List.{filter, range_with_len}}
use Rattle.{df_base.proofs.Laws.{same_test}, df_theory.specs.{Units.{Block, Layout}, Shape.{Shape}}}
use Rattle.df_model.specs.{Work.{Running, Work, captured_sum, is_captured, is_held, is_in, is_known, is_of, or_known, reference_of, sum_in}, Blocks.{Blocks, blocks_of, captured_of, entries, entry, is_held_in, left_of, pair_of, reference_in, sum_at, without_entry, written_of}}

-- what is looked up is what the map says there
in_case : (f : ℕ → Option ℕ) (a x : ℕ) (o : Option ℕ) (rest : List (ℕ × ℕ)) (c : ℕ)
    → f x ≡ o → sum_at a (entry x o rest) ≡ Some c → (sum_at a rest ≡ Some c → f a ≡ Some c) → f a ≡ Some c
in_case f a x None rest c known is more = more is
in_case f a x (Some d) rest c known is more = go (x == a) refl is
  where
    go : (b : Bool) → (x == a) ≡ b → (if b then Some d else sum_at a rest) ≡ Some c → f a ≡ Some c
    go true same found = ap f (sym (eqb-true x a same)) ∙ known ∙ found
    go false same found = more found

pub entry_in : (f : ℕ → Option ℕ) (xs : List ℕ) (a c : ℕ) → sum_at a (entries f xs) ≡ Some c → f a ≡ Some c
entry_in f [] a c is = absurd (cc)
entry_in f (x ∷ xs) a c is = in_case f a x (f x) (entries f xs) c refl is (λ rest. entry_in f xs a c rest)

none_case : (f : ℕ → Option ℕ) (xs : List ℕ) (a : ℕ) (o : Option ℕ) → sum_at a (entries f xs) ≡ o → f a ≡ None → o ≡ None
none_case f xs a None found none = refl
none_case f xs a (Some c) found none = absurd (let there = entry_in f xs a c found in cc (there, none))

pub entry_none : (f : ℕ → Option ℕ) (xs : List ℕ) (a : ℕ) → f a ≡ None → sum_at a (entries f xs) ≡ None
entry_none f xs a none = none_case f xs a (sum_at a (entries f xs)) refl none

known_case : (f : ℕ → Option ℕ) (xs : List ℕ) (a : ℕ) (o : Option ℕ) → sum_at a (entries f xs) ≡ o → is_known o ≡ true → is_known (f a) ≡ true
known_case f xs a None found known = absurd (cc)
known_case f xs a (Some c) found known = ap is_known (entry_in f xs a c found)

pub entry_known : (f : ℕ → Option ℕ) (xs : List ℕ) (a : ℕ) → is_known (sum_at a (entries f xs)) ≡ true → is_known (f a) ≡ true
entry_known f xs a known = known_case f xs a (sum_at a (entries f xs)) refl known

-- what the map says of one of the addresses is looked up
there_case : (f : ℕ → Option ℕ) (a x c : ℕ) (o : Option ℕ) (rest : List (ℕ × ℕ))
    → f x ≡ o → f a ≡ Some c → ((x ≡ a → ⊥) → sum_at a rest ≡ Some c) → sum_at a (entry x o rest) ≡ Some c
there_case f a x c None rest known is more = more (λ same. let here = ap f same in cc (known, here, is))
there_case f a x c (Some d) rest known is more = go (x == a) refl
  where
    go : (b : Bool) → (x == a) ≡ b → (if b then Some d else sum_at a rest) ≡ Some c
    go true same = sym known ∙ ap f (eqb-true x a same) ∙ is
    go false same = more (eqb-false x a same)

pub entry_there : (f : ℕ → Option ℕ) (s n a c : ℕ) → s ≤ a → a < s + n → f a ≡ Some c → sum_at a (entries f (range_with_len s n)) ≡ Some c
entry_there f s zero a c from to is = absurd (omega arith)
entry_there f s (suc n) a c from to is = there_case f a s c (f s) (entries f (range_with_len (s + 1) n)) refl is (λ apart.
    entry_there f (s + 1) n a c (omega (arith, apart)) (omega arith) is)

-- ---- a fact of each entry

abbrev pub EachPair : (ℕ × ℕ → Type 0) → List (ℕ × ℕ) → Type 0
EachPair P [] = Unit {0}
EachPair P (x ∷ xs) = P x × EachPair P xs

first_case : (P : ℕ × ℕ → Type 0) (p : ℕ × ℕ → Bool) (y : ℕ × ℕ) (ys : List (ℕ × ℕ)) (x : ℕ × ℕ) (more : List (ℕ × ℕ)) (b : Bool)
    → P y → cond b (y ∷ filter p ys) (filter p ys) ≡ x ∷ more → (filter p ys ≡ x ∷ more → P x) → P x
first_case P p y ys x more true here is rest = subst P (let e : y ≡ x = cc in e) here
first_case P p y ys x more false here is rest = rest is

-- the first that passes a test is one of them
pub filtered_each : (P : ℕ × ℕ → Type 0) (p : ℕ × ℕ → Bool) (xs : List (ℕ × ℕ)) (x : ℕ × ℕ) (more : List (ℕ × ℕ))
    → EachPair P xs → filter p xs ≡ x ∷ more → P x
filtered_each P p [] x more each is = absurd (cc)
filtered_each P p (y ∷ ys) x more each is = first_case P p y ys x more (p y) each.0 is (λ rest. filtered_each P p ys x more each.1 rest)

within_case : (P : ℕ × ℕ → Type 0) (a : ℕ) (o : Option ℕ) (rest : List (ℕ × ℕ))
    → ((c : ℕ) → o ≡ Some c → P (a, c)) → EachPair P rest → EachPair P (entry a o rest)
within_case P a None rest here each = each
within_case P a (Some c) rest here each = (here c refl, each)

pub within : (P : ℕ × ℕ → Type 0) (f : ℕ → Option ℕ) (s n : ℕ)
    → ((a c : ℕ) → s ≤ a → a < s + n → f a ≡ Some c → P (a, c)) → EachPair P (entries f (range_with_len s n))
within P f s zero all = tt
within P f s (suc n) all = within_case P s (f s) (entries f (range_with_len (s + 1) n)) (λ c is.
    all s c (omega arith) (omega arith) is) (within P f (s + 1) n (λ a c from to is. all a c (omega arith) (omega arith) is))

-- ---- what the lists of a state say

at_case : (f : ℕ → Option ℕ) (s n a : ℕ) (o : Option ℕ) → f a ≡ o → s ≤ a → a < s + n → sum_at a (entries f (range_with_len s n)) ≡ o
at_case f s n a None is from to = entry_none f (range_with_len s n) a is
at_case f s n a (Some c) is from to = entry_there f s n a c from to is

pub entry_at : (f : ℕ → Option ℕ) (s n a : ℕ) → s ≤ a → a < s + n → sum_at a (entries f (range_with_len s n)) ≡ f a
entry_at f s n a from to = at_case f s n a (f a) refl from to

pub pairs_sum : (a : ℕ) (xs : List (ℕ × Block)) → sum_at a (map pair_of xs) ≡ sum_in a xs
pairs_sum a [] = refl
pairs_sum a (x ∷ xs) = ap (λ (e : Bool). if e then Some x.1.checksum else sum_at a (map pair_of xs)) (same_test x.0 a)
    ∙ ap (λ (o : Option ℕ). if a == x.0 then Some x.1.checksum else o) (pairs_sum a xs)

known_of : (e : Bool) (c : ℕ) (o : Option ℕ) → is_known (if e then Some c else o) ≡ (e || is_known o)
known_of true c o = refl
known_of false c o = refl

pub pairs_known : (a : ℕ) (xs : List (ℕ × Block)) → is_known (sum_at a (map pair_of xs)) ≡ is_of a xs
pairs_known a [] = refl
pairs_known a (x ∷ xs) = known_of (x.0 == a) x.1.checksum (sum_at a (map pair_of xs))
    ∙ ap (λ (e : Bool). e || is_known (sum_at a (map pair_of xs))) (same_test x.0 a) ∙ ap (λ (e : Bool). (a == x.0) || e) (pairs_known a xs)

module _ (l : Layout) (a : ℕ) (from : 1 ≤ a) (to : a < 1 + l.blocks) where
  captured_is : (o : Option Running)
      → (is_known (sum_at a (captured_of l o)) || (is_known (sum_at a (written_of o)) || is_in a (left_of o))) ≡ is_captured a o
  captured_is None = refl
  captured_is (Some r) = ap (λ (o : Option ℕ).
      is_known o || (is_known (sum_at a (map pair_of r.written)) || is_in a r.left)) (entry_at r.parts.references 1 l.blocks a from to)
      ∙ ap (λ (e : Bool). is_known (r.parts.references a) || (e || is_in a r.left)) (pairs_known a r.written)

  captured_sum_is : (o : Option Running) → or_known (sum_at a (captured_of l o)) (sum_at a (written_of o)) ≡ captured_sum a o
  captured_sum_is None = refl
  captured_sum_is (Some r) = ap (λ (o : Option ℕ). or_known o (sum_at a (map pair_of r.written)))
      (entry_at r.parts.references 1 l.blocks a from to) ∙ ap (or_known (r.parts.references a)) (pairs_sum a r.written)

module _ (sh : Shape) (w : Work) (a : ℕ) (from : 1 ≤ a) (to : a < 1 + sh.layout.blocks) where
  abbrev b : Blocks
  b = blocks_of sh w

  pub held_is : is_held_in b a ≡ is_held w a
  held_is = ap (λ (o : Option ℕ). is_known o || ((is_known (sum_at a b.captured) || (is_known (sum_at a b.written) || is_in
      a b.left)) || (is_known (sum_at a b.durable) || is_known (sum_at a b.chain)))) (entry_at w.live 1 sh.layout.blocks a from to)
      ∙ ap (λ (e : Bool). is_known (w.live a) || (e || (is_known (sum_at a b.durable) || is_known (sum_at a b.chain))))
      (captured_is sh.layout a from to w.running)
      ∙ ap (λ (o : Option ℕ). is_known (w.live a) || (is_captured a w.running || (is_known o || is_known (sum_at a b.chain))))
      (entry_at w.view.checkpoint.parts.references 1 sh.layout.blocks a from to)
      ∙ ap (λ (e : Bool). is_known (w.live a) || (is_captured a w.running || (is_known (w.view.checkpoint.parts.references a) || e)))
      (pairs_known a w.view.checkpoint.chain)

  pub reference_is : reference_in b a ≡ reference_of w a
  reference_is = ap (λ (o : Option ℕ). or_known o (or_known (or_known (sum_at a b.captured) (sum_at a b.written))
      (or_known (sum_at a b.durable) (sum_at a b.chain)))) (entry_at w.live 1 sh.layout.blocks a from to) ∙ ap (λ (o : Option ℕ).
      or_known (w.live a) (or_known o (or_known (sum_at a b.durable) (sum_at a b.chain)))) (captured_sum_is sh.layout a from to w.running)
      ∙ ap (λ (o : Option ℕ). or_known (w.live a) (or_known (captured_sum a w.running) (or_known o (sum_at a b.chain))))
      (entry_at w.view.checkpoint.parts.references 1 sh.layout.blocks a from to)
      ∙ ap (λ (o : Option ℕ). or_known (w.live a) (or_known (captured_sum a w.running) (or_known (w.view.checkpoint.parts.references a) o)))
      (pairs_sum a w.view.checkpoint.chain)

-- what isn't there can't be taken away
pub without_none : (a : ℕ) (xs : List (ℕ × ℕ)) → sum_at a xs ≡ None → without_entry a xs ≡ xs
without_none a [] none = refl
without_none a (x ∷ xs) none = by (without_none a xs) (x.0 == a) refl none
  where
    by : (sum_at a xs ≡ None → without_entry a xs ≡ xs)
        → (b : Bool) → (x.0 == a) ≡ b → cond b (Some x.1) (sum_at a xs) ≡ None → cond b xs (x ∷ without_entry a xs) ≡ x ∷ xs
    by rest true same is = absurd (cc)
    by rest false other is = ap (λ (l : List (ℕ × ℕ)). x ∷ l) (rest is)
