-- It is one of the table's.
use Rattle.std.{proofs.Common.{ℕ, List, ◌≤◌, ap, ◌∙◌}, specs.Prelude.{IfSome, slice_get}}
use Rattle.df_grid.{specs.Table.{TableState}, proofs.Views.{left_inside}}
use Rattle.df_grid.proofs.table.Table.next_trailer.Goals as goal

pub returns-clause-inside : goal.returns-clause-inside
returns-clause-inside c = let s = c.self.inside in rw (ap (λ (v : TableState). v.size) c.self.view_is) at
    (left_inside s.entries s.free s.written.items s.left.items s.chain.items
    c.self.invariant.0 c.copied.result (c.copied.ensures ∙ c.first.ensures.value ∙ ap (λ (l : List ℕ). slice_get l 0) c.deref.ensures.0))
