-- The addresses of a target: those of the blocks that were written are held, and the free ones stand after them, one after the other.
use Rattle.std.{proofs.{Common.{◌≡◌, inl, inr, ℕ, zero, suc, ◌+◌, ◌-◌, ◌<◌, ◌≤◌, Bool, true, false, not, if◌then◌else◌, List, [], ◌∷◌, length, take, Some, None, refl, sym, ◌∙◌, ap, arith}, lemmas.Bool.{cases_eq, eq-eqb, ne_eqb}}, specs.{Prelude.{slice_get}, List.{filter, range_with_len}}}
use Rattle.{df_base.proofs.Laws.{or_false}, df_layout.specs.declared.layout.Layout.{Layout}, df_format.specs.Message.{Message}}
use Rattle.{df_units.specs.Meaning.{number_of}, df_model.specs.{Blocks.{is_held_in, sum_at}, Work.{is_known}}}
use Rattle.{df_grid.specs.Grid.{free_addresses}, df_copy.specs.Targets.{blocks_with, grid_with, numbered}}

-- ---- what is known of an address

-- nor of one after them
pub numbered_behind : (a k : ℕ) (us : List Message) → a + length us ≤ k → sum_at k (numbered a us) ≡ None
numbered_behind a k [] behind = refl
numbered_behind a k (u ∷ us) behind = ap (λ (b : Bool).
    if b then Some (number_of u.header.checksum) else sum_at k (numbered (a + 1) us)) (ne_eqb a k (λ same. omega (arith, same, behind)))
    ∙ numbered_behind (a + 1) k us (omega (arith, behind))

-- of each of them its checksum
pub numbered_there : (a i k : ℕ) (us : List Message) (u : Message)
    → slice_get us i ≡ Some u → k ≡ a + i → sum_at k (numbered a us) ≡ Some (number_of u.header.checksum)
numbered_there a i k [] u at is = absurd (cc)
numbered_there a zero k (v ∷ us) u at is = let same : v ≡ u = cc in
    ap (λ (b : Bool). if b then Some (number_of v.header.checksum) else sum_at k (numbered (a + 1) us)) (eq-eqb a k (omega (arith, is)))
    ∙ ap (λ (w : Message). Some (number_of w.header.checksum)) same
numbered_there a (suc i) k (v ∷ us) u at is = ap (λ (b : Bool).
    if b then Some (number_of v.header.checksum) else sum_at k (numbered (a + 1) us)) (ne_eqb a k (λ same. omega (arith, same, is)))
    ∙ numbered_there (a + 1) i k us u at (omega (arith, is))

-- one that is known is one of theirs
pub record IsNumbered (a k c : ℕ) (us : List Message) : Type 0 where
  pub place : ℕ
  pub unit : Message
  pub at : slice_get us place ≡ Some unit
  pub address : k ≡ a + place
  pub sum : c ≡ number_of unit.header.checksum

numbered_here : (a k c : ℕ) (u : Message) (us : List Message) → a ≡ k → Some (number_of u.header.checksum) ≡ Some c → IsNumbered a k c (u ∷ us)
numbered_here a k c u us here is = record { place = 0; unit = u; at = refl; address = omega (arith, here); sum = (let same : number_of u.header.checksum ≡ c = cc in sym same) }

pub numbered_known : (a k c : ℕ) (us : List Message) → sum_at k (numbered a us) ≡ Some c → IsNumbered a k c us
numbered_known a k c [] is = absurd (cc)
numbered_known a k c (u ∷ us) is = elim (cases_eq a k) [
  | inl here ↦ numbered_here a k c u us here
      (sym (ap (λ (b : Bool). if b then Some (number_of u.header.checksum) else sum_at k (numbered (a + 1) us)) (eq-eqb a k here)) ∙ is)
  | inr other ↦ let there = numbered_known (a + 1) k c us
      (sym (ap (λ (b : Bool). if b then Some (number_of u.header.checksum) else sum_at k (numbered (a + 1) us)) (ne_eqb a k other)) ∙ is) in
      record { place = suc there.place; unit = there.unit; at = there.at; address = omega (arith, there.address); sum = there.sum }
]

known_there : (a k : ℕ) (us : List Message) → a ≤ k → k < a + length us → is_known (sum_at k (numbered a us)) ≡ true
known_there a k [] from inside = absurd (omega (arith, from, inside))
known_there a k (u ∷ us) from inside = elim (cases_eq a k) [
  | inl here ↦ ap (λ (b : Bool). is_known (if b then Some (number_of u.header.checksum) else sum_at k (numbered (a + 1) us))) (eq-eqb a k here)
  | inr other ↦
      ap (λ (b : Bool). is_known (if b then Some (number_of u.header.checksum) else sum_at k (numbered (a + 1) us))) (ne_eqb a k other)
      ∙ known_there (a + 1) k us (omega (arith, from, other)) (omega (arith, inside))
]

-- ---- which addresses are held

held_is_known : (us : List Message) (k : ℕ) → is_held_in (blocks_with us) k ≡ is_known (sum_at k (numbered 1 us))
held_is_known us k = or_false (is_known (sum_at k (numbered 1 us)))

pub held_there : (us : List Message) (k : ℕ) → 1 ≤ k → k ≤ length us → is_held_in (blocks_with us) k ≡ true
held_there us k from inside = held_is_known us k ∙ known_there 1 k us from (omega (arith, inside))

pub held_behind : (us : List Message) (k : ℕ) → length us < k → is_held_in (blocks_with us) k ≡ false
held_behind us k behind = held_is_known us k ∙ ap is_known (numbered_behind 1 k us (omega (arith, behind)))

-- ---- the free ones

kept_all : (test : ℕ → Bool) (a n : ℕ) → ((k : ℕ) → a ≤ k → test k ≡ true) → filter test (range_with_len a n) ≡ range_with_len a n
kept_all test a zero all = refl
kept_all test a (suc n) all =
    ap (λ (b : Bool). if b then a ∷ filter test (range_with_len (a + 1) n) else filter test (range_with_len (a + 1) n)) (all a (omega arith))
    ∙ ap (λ (l : List ℕ). a ∷ l) (kept_all test (a + 1) n (λ k from. all k (omega (arith, from))))

skipped : (test : ℕ → Bool) (a m n : ℕ) → ((k : ℕ) → a ≤ k → k < a + m → test k ≡ false)
    → ((k : ℕ) → a + m ≤ k → test k ≡ true) → filter test (range_with_len a (m + n)) ≡ range_with_len (a + m) n
skipped test a zero n none all = let plain : 0 + n ≡ n = omega arith in let here : a + 0 ≡ a = omega arith in
    ap (λ (k : ℕ). filter test (range_with_len a k)) plain
    ∙ kept_all test a n (λ k from. all k (omega (arith, from))) ∙ ap (λ (k : ℕ). range_with_len k n) (sym here)
skipped test a (suc m) n none all = let more : suc m + n ≡ suc (m + n) = omega arith in let on : a + 1 + m ≡ a + suc m = omega arith in
    ap (λ (k : ℕ). filter test (range_with_len a k)) more ∙ ap (λ (b : Bool). if b then a
    ∷ filter test (range_with_len (a + 1) (m + n)) else filter test (range_with_len (a + 1) (m + n))) (none a (omega arith) (omega arith))
    ∙ skipped test (a + 1) m n (λ k from below. none k (omega (arith, from)) (omega (arith, below))) (λ k from. all k (omega (arith, from)))
    ∙ ap (λ (k : ℕ). range_with_len k n) on

front_of_range : (a n k : ℕ) → k ≤ n → take k (range_with_len a n) ≡ range_with_len a k
front_of_range a n zero fits = refl
front_of_range a zero (suc k) fits = absurd (omega (arith, fits))
front_of_range a (suc n) (suc k) fits = ap (λ (l : List ℕ). a ∷ l) (front_of_range (a + 1) n k (omega (arith, fits)))

module _ (layout : Layout) (cluster : ℕ) (us : List Message) where
  pub free_behind : length us ≤ layout.blocks
      → free_addresses (grid_with layout cluster us) ≡ range_with_len (length us + 1) (layout.blocks - length us)
  free_behind fits = let all : layout.blocks ≡ length us + (layout.blocks - length us) = omega (arith, fits) in
      let next : 1 + length us ≡ length us + 1 = omega arith in
      ap (λ (n : ℕ). filter (λ k. not (is_held_in (blocks_with us) k)) (range_with_len 1 n)) all
      ∙ skipped (λ k. not (is_held_in (blocks_with us) k)) 1 (length us) (layout.blocks - length us) (λ k from below.
      ap not (held_there us k from (omega (arith, below)))) (λ k behind. ap not (held_behind us k (omega (arith, behind))))
      ∙ ap (λ (k : ℕ). range_with_len k (layout.blocks - length us)) next

  -- the least of them are the next ones
  pub next_free : (n : ℕ)
      → length us + n ≤ layout.blocks → take n (free_addresses (grid_with layout cluster us)) ≡ range_with_len (length us + 1) n
  next_free n fits =
      ap (take n) (free_behind (omega (arith, fits))) ∙ front_of_range (length us + 1) (layout.blocks - length us) n (omega (arith, fits))
