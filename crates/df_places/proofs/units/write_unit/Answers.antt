-- The put's steps with a sync after them.
use Rattle.df_places.proofs.Steps.{with_sync}
use Rattle.df_places.proofs.units.write_unit.Goals as goal

pub returns-clause-steps : goal.returns-clause-steps
returns-clause-steps g c at x here is =
    with_sync c.args.layout.now c.args.place c.args.unit.now at x (c.in_ok-put_unit.ensures.steps at x here is)
