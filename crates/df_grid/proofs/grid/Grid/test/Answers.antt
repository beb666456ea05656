-- What is wrong with what is seen is what the machine finds wrong.
use Rattle.{std.proofs.Common.{subst}, df_layout.specs.declared.{layout.Layout.{Layout}, places.Place.{Place}}}
use Rattle.{df_units.specs.Meaning.{number_of}, df_places.specs.Units.{IsSeen}}
use Rattle.df_grid.{specs.{Grid.{GridState}, Reads.{Tests}}, proofs.Reading.{tests}}
use Rattle.df_grid.proofs.grid.Grid.test.Goals as goal

pub returns-clause-tested : goal.returns-clause-tested
returns-clause-tested g c = let s = c.self.inside in rw (← c.self.view_is) (tests s.layout s.cluster c.args.reference.address
    (g.D.Disk.told c.args.disk.now) c.args.reference.checksum c.in_ok-seen.seen c.fault_of.result c.fault_of.ensures
    (rw c.grid_place-place.ensures at (rw c.self.invariant.block at c.in_ok-seen.ensures.seen)))
