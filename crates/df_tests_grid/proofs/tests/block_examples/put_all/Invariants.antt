-- The grid is of the same cluster, and no checkpoint runs.
use Rattle.{std.proofs.Common.{◌≡◌}, df_grid.specs.Table.{IsIdle}}
use Rattle.df_tests_grid.proofs.tests.block_examples.put_all.Given as goal

abbrev pub invariant-loop-byte : goal.invariant-loop-byte
invariant-loop-byte g l = (l.grid.cluster ≡ 7) × (IsIdle l.grid.blocks)
