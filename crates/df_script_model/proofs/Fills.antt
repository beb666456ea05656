-- A line that writes a block takes the next address of a grid whose first ones are live.
use Rattle.std.{proofs.{Common.{◌≡◌, inl, inr, ℕ, zero, suc, ◌+◌, ◌<◌, ◌≤◌, ◌==◌, ◌||◌, not, nat_lt, cond, Bool, true, false, if◌then◌else◌, List, [], ◌∷◌, length, Option, Some, None, Ok, refl, ◌∙◌, ap, arith}, lemmas.Bool.{cases_eq}, lemmas.Bool.Decides.{nat_tests}}, specs.List.{filter, range_with_len}}
use Rattle.df_theory.specs.{Units.{BlockPlace, BlockUnit, CopyPlace, HeaderPlace, Place, PreparePlace, ReplyPlace, overlay}, Shape.{Shape}, UnitLog.{put_one}}
use Rattle.df_model.{specs.{Work.{Work, is_known}, Memory.{block_room, free_of, memory_of}, Blocks.{blocks_of as blocks_in, is_held_in, sum_at}, Making.{block_of, next_address, first_of}, Refusals.{block_refusals, first_refusal}, After.{outcome, with_live}, Commands.{ToWriteBlock, WriteBlock, as_answer}, Supply.{Shown, next, puts_of, unless}}, proofs.Laws.{entry_at, pass_all}}
use Rattle.df_script_model.specs.Sessions.{is_among, plain, with_live_blocks, with_units}

-- ---- the first that is free

first_case : (held : ℕ → Bool) (s k : ℕ) (more : List ℕ) (h : Bool) → held s ≡ h → (s ≡ k + 1 → h ≡ false) → ((s ≡ k + 1 → ⊥)
    → (h ≡ true) × ((rest : List ℕ) × (more ≡ (k + 1) ∷ rest))) → (rest : List ℕ) × (cond (not h) (s ∷ more) more ≡ (k + 1) ∷ rest)
first_case held s k more true is here there = let apart : s ≡ k + 1 → ⊥ = (λ same. let no = here same in cc (no)) in (there apart).1
first_case held s k more false is here there = elim (cases_eq s (k + 1)) [
  | inl same ↦ (more, ap (λ (a : ℕ). a ∷ more) same)
  | inr apart ↦ absurd (let no = (there apart).0 in cc (no))
]

-- of the addresses from s on those up to k are held, and the one after them isn't
pub first_free : (held : ℕ → Bool) (k s n : ℕ) → s ≤ k + 1 → k + 1 < s + n → ((x : ℕ) → s ≤ x → x ≤ k → held x ≡ true)
    → held (k + 1) ≡ false → (rest : List ℕ) × (filter (λ a. not (held a)) (range_with_len s n) ≡ (k + 1) ∷ rest)
first_free held k s zero from to below free = absurd (omega arith)
first_free held k s (suc n) from to below free = first_case held s k (filter (λ a. not (held a)) (range_with_len (s + 1) n)) (held s) refl
    (λ same. ap held same ∙ free)
    (λ apart. (below s (omega arith) (omega (arith, apart)), first_free held k (s + 1) n (omega (arith, apart)) (omega arith) (λ x above upto. below x (omega arith) upto) free))

-- ---- the state and what is shown

either : {X : Type 0} (p q : Bool) (x y : X) → (if p then x else (if q then x else y)) ≡ (if p || q then x else y)
either true q x y = refl
either false q x y = refl

one_more : (k a : ℕ) → ((a == k + 1) || is_among k a) ≡ is_among (k + 1) a
one_more k a = grind (arith, nat_tests)

over : {X : Type 0} (k a : ℕ) (x y : X) → (if a == k + 1 then x else (if is_among k a then x else y)) ≡ (if is_among (k + 1) a then x else y)
over k a x y = either (a == k + 1) (is_among k a) x y ∙ ap (λ (b : Bool). if b then x else y) (one_more k a)

pub live_over : (sh : Shape) (k : ℕ) → with_live (with_live_blocks sh k) (k + 1) (Some 3000) ≡ with_live_blocks sh (k + 1)
live_over sh k = λ i. record (with_live_blocks sh k) { live = λ a. over k a (Some 3000) None i }

units_at : (k : ℕ) (place : Place)
    → overlay (put_one (BlockPlace (k + 1)) (BlockUnit (block_of 1 3000 1 []))) (with_units k) place ≡ with_units (k + 1) place
units_at k (CopyPlace n) = refl
units_at k (HeaderPlace n) = refl
units_at k (PreparePlace n) = refl
units_at k (ReplyPlace n) = refl
units_at k (BlockPlace a) = put_at (a == k + 1) (k + 1 == a) (same_test a (k + 1)) (is_among k a)
    ∙ ap (λ (b : Bool). if b then Some (BlockUnit (block_of 1 3000 1 [])) else None) (one_more k a)
  where
    same_test : (a b : ℕ) → (b == a) ≡ (a == b)
    same_test a b = grind (arith, nat_tests)

    put_at : (p q : Bool) → q ≡ p → (r : Bool) → overlay (λ place. if q then Some (BlockUnit (block_of 1 3000 1 [])) else None) (λ place.
        if r then Some (BlockUnit (block_of 1 3000 1 [])) else None) (BlockPlace a)
        ≡ (if p || r then Some (BlockUnit (block_of 1 3000 1 [])) else None)
    put_at true true same r = refl
    put_at true false same r = absurd (cc)
    put_at false true same r = absurd (cc)
    put_at false false same r = refl

pub units_over : (k : ℕ) → overlay (put_one (BlockPlace (k + 1)) (BlockUnit (block_of 1 3000 1 []))) (with_units k) ≡ with_units (k + 1)
units_over k = λ i place. units_at k place i

-- ---- the line

module _ (sh : Shape) (k : ℕ) (room : k < sh.layout.blocks) where
  abbrev w : Work
  w = with_live_blocks sh k

  -- of these addresses no checkpoint holds any
  held_is : (a : ℕ) → 1 ≤ a → a < 1 + sh.layout.blocks → is_held_in (blocks_in sh w) a ≡ is_among k a
  held_is a from to = ap (λ (o : Option ℕ).
      is_known o || (false || (is_known (sum_at a (blocks_in sh w).durable) || false))) (entry_at w.live 1 sh.layout.blocks a from to)
      ∙ ap (λ (o : Option ℕ).
      is_known (w.live a) || (false || (is_known o || false))) (entry_at w.view.checkpoint.parts.references 1 sh.layout.blocks a from to)
      ∙ known (is_among k a)
    where
      known : (b : Bool) → (is_known (if b then Some 3000 else None) || false) ≡ b
      known true = refl
      known false = refl

  free_is : (rest : List ℕ) × (free_of (memory_of sh (plain sh).spell w) ≡ (k + 1) ∷ rest)
  free_is = first_free (is_held_in (blocks_in sh w)) k 1 sh.layout.blocks (omega arith) (omega (arith, room)) (λ x above upto.
      held_is x above (omega (arith, room, upto)) ∙ among x above upto) (held_is (k + 1) (omega arith) (omega (arith, room)) ∙ beyond)
    where
      among : (x : ℕ) → 1 ≤ x → x ≤ k → is_among k x ≡ true
      among x above upto = grind (arith, nat_tests)

      beyond : is_among k (k + 1) ≡ false
      beyond = grind (arith, nat_tests)

  address_is : next_address (memory_of sh (plain sh).spell w) ≡ k + 1
  address_is = ap first_of free_is.1

  none : first_refusal (block_refusals (memory_of sh (plain sh).spell w) 1 []) ≡ None
  none = pass_all (block_refusals (memory_of sh (plain sh).spell w) 1 [])
      (refl, (short (block_room sh.layout), (ap (λ (xs : List ℕ). length xs == 0) free_is.1 ∙ some (length free_is.0), tt)))
    where
      short : (size : ℕ) → nat_lt size 0 ≡ false
      short size = grind (arith, nat_tests)

      some : (n : ℕ) → (suc n == 0) ≡ false
      some n = grind (arith, nat_tests)

  -- it is answered with the next address, which is live then
  pub line_is : (shown : Shown) → next sh (plain sh) shown w (WriteBlock 1 []) ≡ (with_live_blocks sh (k + 1), ToWriteBlock (Ok (k + 1, 3000)))
  line_is shown = (λ i. as_answer ToWriteBlock (outcome (none i) w (with_live w (address_is i) (Some 3000)) (address_is i, 3000)))
      ∙ ap (λ (u : Work). (u, ToWriteBlock (Ok (k + 1, 3000)))) (live_over sh k)

  -- and shows the block there
  pub puts_are : puts_of (memory_of sh (plain sh).spell w) (3000 ∷ []) (WriteBlock 1 [])
      ≡ put_one (BlockPlace (k + 1)) (BlockUnit (block_of 1 3000 1 []))
  puts_are = λ i. unless (none i) (put_one (BlockPlace (address_is i)) (BlockUnit (block_of 1 3000 1 [])))
