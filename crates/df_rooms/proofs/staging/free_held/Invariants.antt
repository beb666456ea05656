-- Each turn moves one room to the free ones.
use Rattle.{std.{proofs.Common.{◌≡◌, ◌+◌, length}, specs.Prelude.{vec_capacity}}, df_layout.specs.declared.layout.Layout.{Layout}}
use Rattle.df_rooms.specs.Stagings.{AreFree, AreHeld}
use Rattle.df_rooms.proofs.staging.free_held.Given as goal

abbrev pub invariant-loop-free : goal.invariant-loop-free
invariant-loop-free l = record {
  all : length l.free.items + length l.held.items ≡ length l.initial.free.items + length l.initial.held.items;
  fit : (layout : Layout) → AreFree layout l.initial.free.items
      → AreHeld layout l.initial.held.items → AreFree layout l.free.items × AreHeld layout l.held.items;
  capacity : (vec_capacity l.free ≡ vec_capacity l.initial.free) × (vec_capacity l.held ≡ vec_capacity l.initial.held);
}

abbrev pub decreases-loop-free : goal.decreases-loop-free
decreases-loop-free l = length l.held.items
