-- The least free one is the first that is not held.
use Rattle.df_grid.proofs.Views.{next_is}
use Rattle.df_grid.proofs.table.Table.next.Goals as goal

pub returns : goal.returns
returns c = let s = c.self.inside in rw (← c.self.view_is) (next_is s.entries s.free
    s.written.items s.left.items s.chain.items c.self.invariant.0 c.least_free.result c.least_free.ensures.none c.least_free.ensures.least)
