-- The blocks below the address are adopted.
use Rattle.{std.proofs.Common.{◌≡◌, ◌<◌}, df_trailer.specs.Reading.{kept_at, referenced_below}, df_grid.specs.Grid.{with_blocks}}
use Rattle.df_checkpoint.specs.Adopting.{blocks_to}
use Rattle.df_checkpoint.proofs.adopting.adopt_live.Given as goal

abbrev pub invariant-loop-address : goal.invariant-loop-address
invariant-loop-address l = record {
  grid : l.grid ≡ with_blocks l.fn.grid (blocks_to (kept_at l.fn.reader) l.address);
  count : l.before ≡ referenced_below l.fn.reader l.address;
  few : l.before < l.address;
}
