-- One address after the other, each the least that is free.
use Rattle.std.proofs.Common.{◌≡◌, refl, arith}
use Rattle.df_grid.{specs.Table.{AreTaken}, proofs.{Free.{none_taken, one_taken}, Turns.{few_taken, none_left}}}
use Rattle.df_grid.proofs.changes.take_least.Goals as goal

pub loop-init : goal.loop-init
loop-init c = rw c.new-taken.ensures (none_taken c.args.free.now)

pub returns-in_default : goal.returns-in_default
returns-in_default c = absurd (none_left c.loop.counter c.args.blocks
    c.args.free.now c.loop.free c.loop.taken.items c.loop.invariant (c.in_default.ensures.none.0 refl) c.loop-test.true c.requires.enough)

pub push-requires : goal.push-requires
push-requires c = (omega arith, omega (arith, c.loop-test.true, c.requires.few, few_taken c.loop.counter c.args.free.now c.loop.free c.loop.taken.items c.loop.invariant))

pub loop-preserved : goal.loop-preserved
loop-preserved c = rw (c.take.ensures.taken, c.push.ensures.items)
    (one_taken c.loop.counter c.in-Some.address c.args.free.now c.loop.free c.loop.taken.items c.loop.invariant c.in-Some.ensures.least)

pub returns : goal.returns
returns c = let all : c.loop.counter ≡ c.args.blocks = omega (arith, c.loop-test.false, c.loop.auto.counter-end) in rw all at c.loop.invariant
