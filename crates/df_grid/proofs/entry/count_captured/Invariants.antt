-- This many of the entries gone over are of captured blocks, and each full group among them has its count.
use Rattle.{std.proofs.Common.{◌≡◌}, df_grid.specs.Table.{AreCounts, captured_among}}
use Rattle.df_grid.proofs.entry.count_captured.Given as goal

abbrev pub invariant-loop-place : goal.invariant-loop-place
invariant-loop-place l = record {
  counted : l.count ≡ captured_among l.entries l.place;
  counts : AreCounts l.entries l.place l.counts.items;
}
