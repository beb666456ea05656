-- The first that isn't held is one of the grid's.
use Rattle.std.{proofs.Common.{ℕ, ◌∙◌, ap}, specs.Prelude.{slice_get}}
use Rattle.df_grid.{specs.{Grid.{GridState, free_addresses}, Table.{unheld}}, proofs.Answered.{next_unheld}}
use Rattle.df_grid.proofs.grid.Grid.next.Goals as goal

pub returns-clause-unheld : goal.returns-clause-unheld
returns-clause-unheld c = next_unheld c.args.self.now c.next.result
    (c.next.ensures ∙ ap (λ (n : ℕ). slice_get (unheld n c.self.inside.table.blocks) 0) c.self.invariant.size_is
    ∙ ap (λ (g : GridState). slice_get (free_addresses g) 0) c.self.view_is)
