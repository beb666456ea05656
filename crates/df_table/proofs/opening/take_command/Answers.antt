-- A command for which there is no room is none of the table's.
use Rattle.{std.proofs.Common.{Err, refl}, df_layout.specs.declared.places.Zone.TheVariants.{WalPrepares}}
use Rattle.df_table.{specs.{declared.ending.Ending.{Ending}, Opening.{TakesCommand, place_at}}, proofs.Following.{no_command}}
use Rattle.df_table.proofs.opening.take_command.Goals as goal

pub returns-else-can_apply : goal.returns-else-can_apply
returns-else-can_apply c = rw c.not_table.ensures
    (refl, no_command c.args.table.now c.args.body.now c.in-Some.command c.can_apply.result c.in-Some.ensures.found c.in-Some.ensures.fits c.if-can_apply.false c.can_apply.ensures.1)
