-- The marked ones are those that are referenced.
use Rattle.{std.proofs.Common.{List, ℕ, length, sym, ap, ◌∙◌}, df_grid.proofs.Held.{referenced_marked}}
use Rattle.df_grid.proofs.table.Table.referenced.Goals as goal

pub returns : goal.returns
returns c = let s = c.self.inside in rw (← c.self.view_is) (c.count_held.ensures.count ∙ sym (ap (λ (l : List (ℕ × ℕ)).
    length l) (referenced_marked s.entries s.free s.written.items s.left.items s.chain.items c.self.invariant.0)))
