-- The slots before this one have reserved headers.
use Rattle.{std.{proofs.Common.{◌≡◌, ◌≤◌, ◌<◌, ◌-◌, ℕ, length, Some}, specs.List.{slice_get}}, df_units.specs.Sample.{reserved_header}}
use Rattle.df_headers.proofs.table.put_reserved.Given as goal

abbrev pub invariant-loop-slot : goal.invariant-loop-slot
invariant-loop-slot l = record {
  within : l.slot ≤ length l.slots;
  size : length l.slots ≡ length l.initial.slots;
  each : (s : ℕ) → s < l.slot → slice_get l.slots s ≡ Some (reserved_header l.cluster s);
}

abbrev pub decreases-loop-slot : goal.decreases-loop-slot
decreases-loop-slot l = length l.slots - l.slot
