-- The live blocks are let go, and then the table is written.
use Rattle.df_table.proofs.Finished.{checkpointed, emptied}
use Rattle.df_table.proofs.checkpointing.checkpoint.Goals as goal

pub returns-clause-makes : goal.returns-clause-makes
returns-clause-makes g c = λ ready few. let s = c.args.replica.now in let u = c.release_all.new.replica in
    let old = g.D.Disk.told c.args.disk.now in let made = c.release_all.ensures.makes old ready in
    checkpointed c.args.layout.now c.args.table.now.rows s u c.fill.new.replica old (g.D.Disk.told c.fill.new.disk) c.fill.result made
    (c.fill.ensures.makes s (emptied c.args.layout.now s u old ready (c.release_all.ensures.state ready) made) few)

pub returns-clause-room : goal.returns-clause-room
returns-clause-room g c = λ ready few. let s = c.args.replica.now in let u = c.release_all.new.replica in
    let old = g.D.Disk.told c.args.disk.now in c.fill.ensures.room
    s (emptied c.args.layout.now s u old ready (c.release_all.ensures.state ready) (c.release_all.ensures.makes old ready)) few
