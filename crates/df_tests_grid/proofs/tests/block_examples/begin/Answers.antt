-- One free address at least is taken.
use Rattle.{std.proofs.Common.{◌≡◌, ℕ, ◌≤◌, List, [], ◌∷◌, length, take, refl, arith}, df_grid.specs.Grid.{free_addresses}}
use Rattle.df_tests_grid.proofs.tests.block_examples.begin.Goals as goal

some : (xs : List ℕ) → 1 ≤ length xs → take 1 xs ≡ [] → ⊥
some [] least none = absurd (omega arith)
some (x ∷ xs) least none = absurd (cc)

pub returns-clause-ready : goal.returns-clause-ready
returns-clause-ready c = rw c.capture.ensures (record { written = refl; left = λ none. some (free_addresses c.args.grid.now) (omega (arith, c.free.ensures, c.if-free-eq0.false)) none })
