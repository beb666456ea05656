-- The first address that isn't held is one of the grid's, and isn't held.
use Rattle.std.{proofs.Common.{◌≡◌, ℕ, zero, suc, ◌+◌, ◌<◌, ◌≤◌, Bool, true, false, cond, not, Option, Some, None, List, ◌∷◌, refl, sym, ap, ◌∙◌, arith}, specs.{Prelude.{IfSome, slice_get}, List.{filter, range_with_len}}}
use Rattle.{df_model.specs.Blocks.{is_held_in}, df_grid.specs.Grid.{GridState, IsUnheld, free_addresses}}

first_case : (held : ℕ → Bool) (s a : ℕ) (rest : List ℕ) (b : Bool) → held s ≡ b → slice_get (cond (not b) (s ∷ rest) rest) 0 ≡ Some a
    → {P : Type 0} → (s ≡ a → held a ≡ false → P) → (slice_get rest 0 ≡ Some a → P) → P
first_case held s a rest true is first {P} here later = later first
first_case held s a rest false is first {P} here later = let same : s ≡ a = cc in here same (ap held (sym same) ∙ is)

pub first_unheld : (held : ℕ → Bool) (s n a : ℕ)
    → slice_get (filter (λ x. not (held x)) (range_with_len s n)) 0 ≡ Some a → (s ≤ a) × (a < s + n) × (held a ≡ false)
first_unheld held s zero a first = absurd (cc)
first_unheld held s (suc n) a first = first_case held s a (filter (λ x. not (held x)) (range_with_len (s + 1) n)) (held s) refl first
    (λ same unheld. (omega arith, omega arith, unheld))
    (λ rest. (let later = first_unheld held (s + 1) n a rest in (omega (arith, later.0), omega (arith, later.1), later.2)))

pub next_unheld : (g : GridState) (o : Option ℕ) → o ≡ slice_get (free_addresses g) 0 → IfSome o (IsUnheld g)
next_unheld g None is = tt
next_unheld g (Some a) is = let found = first_unheld (is_held_in g.blocks) 1 g.layout.blocks a (sym is) in
    record { inside = (found.0, omega (arith, found.1)); unheld = found.2 }
