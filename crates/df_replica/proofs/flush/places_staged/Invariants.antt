-- The sessions after the requests before the index are counted.
use Rattle.{std.proofs.Common.{◌≡◌, ◌≤◌, ◌+◌, ◌-◌, length}, df_replica.specs.Flushing.{sessions_staged}}
use Rattle.df_replica.proofs.flush.places_staged.Given as goal

abbrev pub invariant-loop-i : goal.invariant-loop-i
invariant-loop-i l = record {
  within : l.i ≤ length l.staging.requests;
  few : l.taken ≤ l.i + 64;
  count : l.taken ≡ length (sessions_staged l.table.sessions l.staging.requests l.head l.i);
}

abbrev pub decreases-loop-i : goal.decreases-loop-i
decreases-loop-i l = length l.staging.requests - l.i
