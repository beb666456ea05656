-- The layout stays.
use Rattle.std.proofs.Common.{◌≡◌}
use Rattle.df_tests_grid.proofs.tests.scrubs.adopt_lost.Given as goal

abbrev pub invariant-loop-done : goal.invariant-loop-done
invariant-loop-done l = l.grid.layout ≡ l.fn.grid.layout
