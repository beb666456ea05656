-- The free ones are those that are not held.
use Rattle.std.proofs.Common.{length, sym, ap, ◌∙◌}
use Rattle.df_grid.{specs.Table.{TableState, unheld}, proofs.{Held.{unheld_open}, Free.{open_count}}}
use Rattle.df_grid.proofs.table.Table.free.Goals as goal

pub returns : goal.returns
returns c = let s = c.self.inside in
    c.free.ensures.value ∙ sym (open_count 1 s.free) ∙ sym (ap length (unheld_open s.entries s.free s.written.items
    s.left.items s.chain.items c.self.invariant.0)) ∙ ap (λ (v : TableState). length (unheld v.size v.blocks)) c.self.view_is
