-- The set keeps its 16384 addresses.
use Rattle.std.proofs.Common.{◌≡◌, length}
use Rattle.df_tests_grid.proofs.tests.free_sets.last_of_a_large_grid_is_found_through_the_summary.Given as goal

abbrev pub invariant-loop-address : goal.invariant-loop-address
invariant-loop-address g l = length l.set ≡ 16384
