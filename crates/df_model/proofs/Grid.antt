-- Addresses that are held, and those that are free.
use Rattle.std.{proofs.{Common.{◌≡◌, inl, inr, ℕ, ◌+◌, ◌<◌, ◌≤◌, ◌==◌, ◌||◌, not, Bool, true, false, cond, List, [], ◌∷◌, length, take, Option, Some, None, refl, sym, ◌∙◌, ap, subst, zero, suc, arith, eqb-true, eq-eqb}, lemmas.Bool.{or_left, or_right, or_parts, eqb-false}}, specs.List.{filter, range_with_len}}
use Rattle.df_theory.specs.{Units.{Block, Parts}, Trailer.{InChain}, Shape.{Shape}}
use Rattle.df_model.{specs.{Work.{Running, Work, is_captured, is_held, is_in, is_known, is_of}, Memory.{free_of, memory_of}, Blocks.{blocks_of, is_held_in}, Codec.{InGrid}, Sense.{AtEachOf, RiseFrom}, Making.{first_of}}, proofs.Entries.{held_is}}

-- ---- lists of addresses

pub rise_lower : (a b : ℕ) (xs : List ℕ) → a ≤ b → RiseFrom b xs → RiseFrom a xs
rise_lower a b [] le rise = tt
rise_lower a b (x ∷ xs) le rise = (omega (arith, rise.0), rise.1)

pub rise_take : (n a : ℕ) (xs : List ℕ) → RiseFrom a xs → RiseFrom a (take n xs)
rise_take zero a xs rise = tt
rise_take (suc n) a [] rise = tt
rise_take (suc n) a (x ∷ xs) rise = (rise.0, rise_take n (x + 1) xs rise.1)

pub each_take : (P : ℕ → Type 0) (n : ℕ) (xs : List ℕ) → AtEachOf P xs → AtEachOf P (take n xs)
each_take P zero xs each = tt
each_take P (suc n) [] each = tt
each_take P (suc n) (x ∷ xs) each = (each.0, each_take P n xs each.1)

pub each_weaker : (P Q : ℕ → Type 0) → ((x : ℕ) → P x → Q x) → (xs : List ℕ) → AtEachOf P xs → AtEachOf Q xs
each_weaker P Q weaker [] each = tt
each_weaker P Q weaker (x ∷ xs) each = (weaker x each.0, each_weaker P Q weaker xs each.1)

pub first_each : (P : ℕ → Type 0) (xs : List ℕ) → AtEachOf P xs → (length xs ≡ 0 → ⊥) → P (first_of xs)
first_each P [] each some = absurd (some refl)
first_each P (x ∷ xs) each some = each.0

-- ---- free addresses

rise_case : (a : ℕ) (rest : List ℕ) (b : Bool) → RiseFrom (a + 1) rest → RiseFrom a (cond b (a ∷ rest) rest)
rise_case a rest true rise = (omega arith, rise)
rise_case a rest false rise = rise_lower a (a + 1) rest (omega arith) rise

pub free_rise : (held : ℕ → Bool) (a n : ℕ) → RiseFrom a (filter (λ x. not (held x)) (range_with_len a n))
free_rise held a zero = tt
free_rise held a (suc n) = rise_case a (filter (λ x. not (held x)) (range_with_len (a + 1) n)) (not (held a)) (free_rise held (a + 1) n)

each_case : (P : ℕ → Type 0) (a : ℕ) (rest : List ℕ) (h : Bool) → (h ≡ false → P a) → AtEachOf P rest → AtEachOf P (cond (not h) (a ∷ rest) rest)
each_case P a rest true here each = each
each_case P a rest false here each = (here refl, each)

pub free_each : (P : ℕ → Type 0) (held : ℕ → Bool) (a n : ℕ)
    → ((x : ℕ) → a ≤ x → x < a + n → held x ≡ false → P x) → AtEachOf P (filter (λ x. not (held x)) (range_with_len a n))
free_each P held a zero all = tt
free_each P held a (suc n) all = each_case P a (filter (λ x. not (held x)) (range_with_len (a + 1) n))
    (held a) (all a (omega arith) (omega arith)) (free_each P held (a + 1) n (λ x from to. all x (omega arith) (omega arith)))

-- an address that isn't held
pub record IsFree (sh : Shape) (w : Work) (a : ℕ) : Type 0 where
  pub inside : InGrid sh.layout a
  pub unheld : is_held w a ≡ false

pub are_free : (sh : Shape) (spell : Parts → List ℕ) (w : Work) → AtEachOf (IsFree sh w) (free_of (memory_of sh spell w))
are_free sh spell w = free_each (IsFree sh w) (is_held_in (blocks_of sh w)) 1 sh.layout.blocks (λ x from to unheld.
    record { inside = (from, omega arith); unheld = sym (held_is sh w x from to) ∙ unheld })

-- ---- what isn't held

pub known_none : (o : Option ℕ) → is_known o ≡ false → o ≡ None
known_none None is = refl
known_none (Some c) is = absurd (cc)

pub known_some : (o : Option ℕ) (c : ℕ) → o ≡ Some c → is_known o ≡ true
known_some o c is = ap is_known is

pub of_none : (a : ℕ) (b : Block) (xs : List (ℕ × Block)) → is_of a xs ≡ false → InChain a b xs → ⊥
of_none a b [] is at = at
of_none a b (x ∷ xs) is (inl here) = eqb-false a x.0 (or_parts (a == x.0) (is_of a xs) is).0 here.0
of_none a b (x ∷ xs) is (inr there) = of_none a b xs (or_parts (a == x.0) (is_of a xs) is).1 there

-- nothing references the address, and no trailer has it
pub record IsNowhere (w : Work) (a : ℕ) : Type 0 where
  pub live : w.live a ≡ None
  pub durable : w.view.checkpoint.parts.references a ≡ None
  pub chain : (b : Block) → InChain a b w.view.checkpoint.chain → ⊥
  pub captured : (r : Running) → w.running ≡ Some r → r.parts.references a ≡ None
  pub written : (r : Running) (b : Block) → w.running ≡ Some r → InChain a b r.written → ⊥

pub nowhere : (w : Work) (a : ℕ) → is_held w a ≡ false → IsNowhere w a
nowhere w a unheld = let one = or_parts (is_known (w.live a))
    (is_captured a w.running || (is_known (w.view.checkpoint.parts.references a) || is_of a w.view.checkpoint.chain)) unheld in
    let two = or_parts (is_captured a w.running) (is_known (w.view.checkpoint.parts.references a) || is_of a w.view.checkpoint.chain) one.1 in
    let three = or_parts (is_known (w.view.checkpoint.parts.references a)) (is_of a w.view.checkpoint.chain) two.1 in record {
      live = known_none (w.live a) one.0;
      durable = known_none (w.view.checkpoint.parts.references a) three.0;
      chain = λ b at. of_none a b w.view.checkpoint.chain three.1 at;
      captured = λ r at. known_none (r.parts.references a)
          (or_parts (is_known (r.parts.references a)) (is_of a r.written || is_in a r.left) (sym (ap (is_captured a) at) ∙ two.0)).0;
      written = λ r b at. of_none a b r.written (or_parts (is_of a r.written) (is_in a r.left)
          (or_parts (is_known (r.parts.references a)) (is_of a r.written || is_in a r.left) (sym (ap (is_captured a) at) ∙ two.0)).1).0;
    }

-- ---- what is held

pub live_held : (w : Work) (a c : ℕ) → w.live a ≡ Some c → is_held w a ≡ true
live_held w a c is = or_left (is_known (w.live a)) (is_captured
    a w.running || (is_known (w.view.checkpoint.parts.references a) || is_of a w.view.checkpoint.chain)) (known_some (w.live a) c is)

-- ---- what holds of each of a list

in_case : (P : ℕ → Type 0) (x : ℕ) (xs : List ℕ) (a : ℕ) (b : Bool)
    → (a == x) ≡ b → P x → (is_in a xs ≡ true → P a) → (b || is_in a xs) ≡ true → P a
in_case P x xs a true same here more is = subst P (sym (eqb-true a x same)) here
in_case P x xs a false same here more is = more is

pub in_each : (P : ℕ → Type 0) (xs : List ℕ) (a : ℕ) → AtEachOf P xs → is_in a xs ≡ true → P a
in_each P [] a each is = absurd (cc)
in_each P (x ∷ xs) a each is = in_case P x xs a (a == x) refl each.0 (λ there. in_each P xs a each.1 there) is

-- a fact that may use that the address is one of the list
pub each_with : (P Q : ℕ → Type 0) (xs : List ℕ) → ((x : ℕ) → is_in x xs ≡ true → P x → Q x) → AtEachOf P xs → AtEachOf Q xs
each_with P Q [] weaker each = tt
each_with P Q (x ∷ xs) weaker each = (weaker x (or_left (x == x) (is_in x xs) (eq-eqb x x refl)) each.0, each_with P Q xs (λ y at. weaker y (or_right (y == x) (is_in y xs) at)) each.1)

-- the trailer's addresses are held
pub left_held : (w : Work) (r : Running) (a : ℕ) → w.running ≡ Some r → is_in a r.left ≡ true → is_held w a ≡ true
left_held w r a at is = or_right
    (is_known (w.live a)) (is_captured a w.running || (is_known (w.view.checkpoint.parts.references a) || is_of a w.view.checkpoint.chain))
    (or_left (is_captured a w.running) (is_known (w.view.checkpoint.parts.references a) || is_of a w.view.checkpoint.chain)
    (ap (is_captured a) at
    ∙ or_right (is_known (r.parts.references a)) (is_of a r.written || is_in a r.left) (or_right (is_of a r.written) (is_in a r.left) is)))
