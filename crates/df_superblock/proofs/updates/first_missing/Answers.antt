use Rattle.{std.proofs.Common.{◌<◌, length, arith}, df_superblock.proofs.Verdicts.{read_here, read_on}}
use Rattle.df_superblock.proofs.updates.first_missing.Goals as goal

pub returns-then-not-holds-clause-some : goal.returns-then-not-holds-clause-some
returns-then-not-holds-clause-some c = let n = c.loop-number.number in
    let inside : n < length c.args.slots.now = omega (arith, c.told-slots) in
    let read = read_here c.args.slots.now n c.from.result _ c.args.content.now c.holds.result inside c.from.ensures c.holds.ensures in
    record { behind = omega arith; inside = omega arith; missing = λ is. let held = read.1 is in cc; read = c.loop-number.invariant }

pub loop-number-preserved : goal.loop-number-preserved
loop-number-preserved c = let n = c.loop-number.number in let inside : n < length c.args.slots.now = omega (arith, c.told-slots) in
    let read = read_here c.args.slots.now n c.from.result _ c.args.content.now c.holds.result inside c.from.ensures c.holds.ensures in
    read_on c.args.slots.now c.args.content.now c.args.from n c.loop-number.invariant (read.0 c.if-not-holds.false)
