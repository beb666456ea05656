-- Those after the place are of the rest.
use Rattle.{std.proofs.Common.{◌≡◌, ◌≤◌, ◌+◌, ◌-◌, drop, length}, df_grid.specs.Table.{is_held_for, picked}}
use Rattle.df_grid.proofs.entry.count_held.Given as goal

abbrev pub invariant-loop-place : goal.invariant-loop-place
invariant-loop-place l = record {
  few : l.count ≤ l.place;
  within : l.place ≤ length l.entries;
  counted : l.count
      + length (picked (is_held_for l.reason) (l.place + 1) (drop l.place l.entries)) ≡ length (picked (is_held_for l.reason) 1 l.entries);
}

abbrev pub decreases-loop-place : goal.decreases-loop-place
decreases-loop-place l = length l.entries - l.place
