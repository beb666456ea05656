-- Each turn moves one room to the free ones.
use Rattle.{std.{proofs.Common.{◌≡◌, ◌+◌, length}, specs.Prelude.{vec_capacity}}, df_layout.specs.declared.layout.Layout.{Layout}}
use Rattle.df_rooms.specs.Stagings.{AreFree, AreSealed}
use Rattle.df_rooms.proofs.staging.free_units.Given as goal

abbrev pub invariant-loop-free : goal.invariant-loop-free
invariant-loop-free l = record {
  all : length l.free.items + length l.units.items ≡ length l.initial.free.items + length l.initial.units.items;
  fit : (layout : Layout) → AreFree layout l.initial.free.items
      → AreSealed layout l.initial.units.items → AreFree layout l.free.items × AreSealed layout l.units.items;
  capacity : (vec_capacity l.free ≡ vec_capacity l.initial.free) × (vec_capacity l.units ≡ vec_capacity l.initial.units);
}

abbrev pub decreases-loop-free : goal.decreases-loop-free
decreases-loop-free l = length l.units.items
