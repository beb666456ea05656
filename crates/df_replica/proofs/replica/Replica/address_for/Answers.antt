-- The refusals are the machine's, over the numbers in memory, and the address is the least that isn't held.
use Rattle.{std.{proofs.Common.{◌-◌, ℕ, sym, ap, ◌∙◌}, specs.Prelude.{slice_get}}, df_layout.specs.declared.layout.Layout.{Layout}}
use Rattle.{df_model.specs.Blocks.{free_in}, df_units.specs.Meaning.{layout_of}, df_opening.specs.Below.{State, memory}}
use Rattle.df_replica.proofs.replica.Replica.address_for.Goals as goal

pub returns-clause-why : goal.returns-clause-why
returns-clause-why c body size = c.address_or_refusal.ensures.value (memory c.args.self.now) body
    (ap (λ (s : State). s.file.layout.block_size - 256) (sym c.self.view_is) ∙ ap (λ (n : ℕ). n - 256) (sym c.from.ensures))
    (ap (λ (s : State). s.file.layout.blocks) (sym c.self.view_is) ∙ sym c.from-2.ensures)
    (c.next-next.ensures.next ∙ ap (λ (l : Layout). slice_get (free_in (layout_of l) c.self.inside.parts.grid.blocks) 0)
    c.self.invariant.grid_fits ∙ ap (λ (s : State). slice_get (free_in (layout_of s.file.layout) s.blocks) 0) c.self.view_is) size
