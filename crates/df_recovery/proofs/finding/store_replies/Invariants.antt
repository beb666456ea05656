-- The sessions before the place have the checksums of their replies.
use Rattle.{std.proofs.Common.{◌-◌, ◌≡◌, ◌≤◌}, df_recovery.specs.Finding.{StoresTo}}
use Rattle.df_recovery.proofs.finding.store_replies.Given as goal

abbrev pub invariant-loop-place : goal.invariant-loop-place
invariant-loop-place l = record {
  within : l.place ≤ l.count;
  places : l.sessions.max ≡ l.initial.sessions.max;
  stores : StoresTo l.stored l.replies l.place l.initial.sessions.sessions l.sessions.sessions;
}

abbrev pub decreases-loop-place : goal.decreases-loop-place
decreases-loop-place l = l.count - l.place
