-- The marked ones are those that are referenced.
use Rattle.std.{proofs.Common.{List, ℕ, sym, ap, ◌∙◌}, specs.{Prelude.{nat_lt, slice_get}, List.{filter}}}
use Rattle.df_grid.proofs.Held.{referenced_marked}
use Rattle.df_grid.proofs.table.Table.next_referenced.Goals as goal

pub returns : goal.returns
returns c = let s = c.self.inside in
    rw (← c.self.view_is) (c.first_marked.ensures ∙ sym (ap (λ (l : List (ℕ × ℕ)). slice_get (filter (λ x. nat_lt c.args.above x.0) l) 0)
    (referenced_marked s.entries s.free s.written.items s.left.items s.chain.items c.self.invariant.0)))
