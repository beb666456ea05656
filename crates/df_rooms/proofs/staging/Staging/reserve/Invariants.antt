-- Each turn adds a room to the free ones, and there is a place for it.
use Rattle.{std.{proofs.Common.{◌≤◌, ◌-◌, length}, specs.Prelude.{vec_capacity}}, df_rooms.specs.Stagings.{AreFree}}
use Rattle.df_rooms.proofs.staging.Staging.reserve.Given as goal

abbrev pub invariant-loop-free : goal.invariant-loop-free
invariant-loop-free l = record {
  few : length l.free.items ≤ 8;
  fit : AreFree l.layout l.free.items;
  places : 8 ≤ vec_capacity l.free;
}

abbrev pub decreases-loop-free : goal.decreases-loop-free
decreases-loop-free l = 8 - length l.free.items
