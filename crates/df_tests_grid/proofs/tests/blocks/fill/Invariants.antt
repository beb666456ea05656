-- The grid is of the same cluster.
use Rattle.std.proofs.Common.{◌≡◌}
use Rattle.df_tests_grid.proofs.tests.blocks.fill.Given as goal

abbrev pub invariant-loop-done : goal.invariant-loop-done
invariant-loop-done g l = l.grid.cluster ≡ 7
