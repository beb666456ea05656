-- One entry after the other.
use Rattle.std.proofs.Common.{◌+◌, ◌-◌, refl, ◌∙◌, ap, arith, length}
use Rattle.df_grid.{specs.Table.{capturing}, proofs.Turns.{part_all, part_length, part_more}}
use Rattle.df_grid.proofs.changes.capture_all.Goals as goal

pub loop-place-init : goal.loop-place-init
loop-place-init c = refl

pub get-requires : goal.get-requires
get-requires c = (omega arith, omega (arith, c.loop-place-test.true, c.len-place-end.ensures, ap length c.loop-place.invariant, part_length capturing c.loop-place.place c.args.entries.now))

pub set-requires : goal.set-requires
set-requires c = (omega arith, omega (arith, c.loop-place-test.true, c.len-place-end.ensures, ap length c.loop-place.invariant, part_length capturing c.loop-place.place c.args.entries.now))

pub loop-place-preserved : goal.loop-place-preserved
loop-place-preserved c = rw (c.set.ensures, c.capturing-entry.ensures) (part_more capturing c.loop-place.place (c.loop-place.place + 1 - 1) c.args.entries.now c.loop-place.entries c.get.result (omega arith) (omega (arith, c.loop-place-test.true, c.len-place-end.ensures)) c.loop-place.invariant c.get.ensures)

pub returns : goal.returns
returns c = c.loop-place.invariant
    ∙ part_all capturing c.loop-place.place c.args.entries.now (omega (arith, c.loop-place-test.false, c.len-place-end.ensures))
