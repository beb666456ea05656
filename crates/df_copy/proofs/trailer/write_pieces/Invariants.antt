-- The blocks before this one are written.
use Rattle.{std.proofs.Common.{◌≡◌, length}, df_disk.specs.Adds.{after_all}, df_grid.specs.Writes.{made_events}}
use Rattle.df_copy.specs.{Targets.{grid_behind, pieces_from}, Trailers.{text_in}, Units.{all_events}}
use Rattle.df_copy.proofs.trailer.write_pieces.Given as goal

abbrev pub invariant-loop-index : goal.invariant-loop-index
invariant-loop-index g l = record {
  grid : l.grid ≡ grid_behind l.fn.grid l.fn.capture.sequence (text_in l.fn.grid l.fn.capture) l.index;
  events : g.B.Disk.told l.to ≡ after_all (all_events (made_events l.fn.grid.layout)
      (pieces_from l.fn.grid l.fn.capture.sequence (text_in l.fn.grid l.fn.capture) l.index)) (g.B.Disk.told l.fn.to);
  room : length l.room ≡ length l.fn.room;
  faults : g.B.Disk.faults l.to ≡ g.B.Disk.faults l.fn.to;
}
