-- One entry after the other.
use Rattle.std.proofs.Common.{◌≡◌, ◌+◌, ◌-◌, ap, arith, length}
use Rattle.df_grid.{specs.Table.{finishing}, proofs.{Held.{entry_there}, Turns.{marked_set, more_finished, none_finished, part_length}}}
use Rattle.df_grid.proofs.changes.finish_all.Goals as goal

pub loop-place-init : goal.loop-place-init
loop-place-init c = record { done = none_finished c.args.entries.now c.args.free.now c.requires.size; marked = c.requires.taken }

pub finish_one-requires-clause-inside : goal.finish_one-requires-clause-inside
finish_one-requires-clause-inside c = (omega arith, omega (arith, c.loop-place-test.true, c.len-place-end.ensures, c.loop-place.invariant.done.size, ap length c.loop-place.invariant.done.entries, part_length finishing c.loop-place.place c.args.entries.now))

pub finish_one-requires-clause-size : goal.finish_one-requires-clause-size
finish_one-requires-clause-size c = omega (arith, c.loop-place-test.true, c.len-place-end.ensures, c.loop-place.invariant.done.size, ap length c.loop-place.invariant.done.entries, part_length finishing c.loop-place.place c.args.entries.now)

pub finish_one-requires-clause-taken : goal.finish_one-requires-clause-taken
finish_one-requires-clause-taken c = c.loop-place.invariant.marked

pub loop-place-preserved : goal.loop-place-preserved
loop-place-preserved c =
    let entry = entry_there c.loop-place.entries (c.loop-place.place + 1 - 1) (omega (arith, c.loop-place-test.true, c.len-place-end.ensures, c.loop-place.invariant.done.size, ap length c.loop-place.invariant.done.entries, part_length finishing c.loop-place.place c.args.entries.now)) in
    rw (c.finish_one.ensures.entries entry.0 entry.1, c.finish_one.ensures.free entry.0 entry.1) (record {
      done = more_finished c.loop-place.place (c.loop-place.place + 1 - 1) c.args.entries.now c.loop-place.entries c.loop-place.free
          entry.0 c.loop-place.invariant.done (omega arith) (omega (arith, c.loop-place-test.true, c.len-place-end.ensures)) entry.1;
      marked = marked_set c.loop-place.entries
          c.loop-place.free (c.loop-place.place + 1 - 1) entry.0 (finishing entry.0) entry.1 c.loop-place.invariant.marked;
    })

pub returns : goal.returns
returns c = let all : c.loop-place.place ≡ length c.args.entries.now =
    omega (arith, c.loop-place-test.false, c.loop-place.auto.place-end, c.len-place-end.ensures) in rw all at c.loop-place.invariant.done
