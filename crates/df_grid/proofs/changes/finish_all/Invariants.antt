-- The first entries are finished, and addresses are taken where their entries are marked.
use Rattle.df_grid.specs.Table.{AreFinished, AreMarked}
use Rattle.df_grid.proofs.changes.finish_all.Given as goal

abbrev pub invariant-loop-place : goal.invariant-loop-place
invariant-loop-place l = record {
  done : AreFinished l.place l.fn.entries l.entries l.free;
  marked : AreMarked l.entries l.free;
}
