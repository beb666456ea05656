-- It is the table's.
use Rattle.{std.{proofs.Common.{◌≡◌, ◌*◌}, specs.Prelude.{IfSome}}, df_model.specs.Blocks.{sum_at}, df_grid.specs.Grid.{GridState}}
use Rattle.df_trailer.specs.Writing.{referenced_among}
use Rattle.df_grid.proofs.grid.GridCapturedBlocks.counted.Goals as goal

pub returns-clause-count : goal.returns-clause-count
returns-clause-count c = rw (← c.self.view_is) c.counted.ensures.count
