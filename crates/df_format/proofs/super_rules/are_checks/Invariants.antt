-- Those before this place have sixteen bytes.
use Rattle.{std.proofs.Common.{◌<◌, ◌≤◌, ◌-◌, ℕ, List, get_or}, df_format.specs.Spelling.{IsCheck}}
use Rattle.df_format.proofs.super_rules.are_checks.Given as goal

abbrev pub invariant-loop-place : goal.invariant-loop-place
invariant-loop-place l = record {
  within : l.place ≤ 64;
  each : (k : ℕ) (d : List ℕ) → k < l.place → IsCheck (get_or l.checks k d);
}

abbrev pub decreases-loop-place : goal.decreases-loop-place
decreases-loop-place l = 64 - l.place
