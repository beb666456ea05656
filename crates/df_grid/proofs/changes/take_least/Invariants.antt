-- What is taken so far are the least ones.
use Rattle.df_grid.specs.Table.{AreTaken}
use Rattle.df_grid.proofs.changes.take_least.Given as goal

abbrev pub invariant-loop : goal.invariant-loop
invariant-loop l = AreTaken l.counter l.fn.free l.free l.taken.items
