use Rattle.{std.proofs.Common.{◌*◌, arith}, df_trailer.proofs.Skipped.{referenced_few}}
use Rattle.df_trailer.proofs.groups.behind_groups.Goals as goal

pub overflow_mul-at : goal.overflow_mul-at
overflow_mul-at g c = omega (arith, c.in_ok-at.ensures, referenced_few (g.G.CapturedBlocks.captured c.args.grid.now) (256 * c.args.groups))

pub overflow_add-at : goal.overflow_add-at
overflow_add-at g c = omega (arith, c.in_ok-at.ensures, referenced_few (g.G.CapturedBlocks.captured c.args.grid.now) (256 * c.args.groups))
