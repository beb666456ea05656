-- The set keeps its 70 addresses.
use Rattle.std.proofs.Common.{◌≡◌, length}
use Rattle.df_tests_grid.proofs.tests.free_sets.addresses_are_given_out_lowest_first.Given as goal

abbrev pub invariant-loop-address : goal.invariant-loop-address
invariant-loop-address g l = length l.set ≡ 70
