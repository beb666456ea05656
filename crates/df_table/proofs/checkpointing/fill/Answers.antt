-- The blocks are written, and then made durable.
use Rattle.{std.proofs.Common.{◌∙◌, ap}, df_rows.{specs.Limits.{block_count, rows_in_block}, proofs.Laws.{tables_fit}}}
use Rattle.std.specs.FinMap as map
use Rattle.df_session.specs.Below.{State as Replica}
use Rattle.df_table.proofs.{Changed.{goes_on}, Finished.{fill_ends, filled, free_emptied, may_conclude, room_made}}
use Rattle.df_table.proofs.checkpointing.fill.Goals as goal

pub conclude-requires : goal.conclude-requires
conclude-requires g c = record { live = c.in-Ok.ensures.goes }

pub returns-in-Ok-clause-makes : goal.returns-in-Ok-clause-makes
returns-in-Ok-clause-makes g c = λ s e few. let n = block_count (rows_in_block c.args.layout.now) (map.len c.args.table.now.rows) in
    let fits = (tables_fit c.args.layout.now (map.len c.args.table.now.rows) few).blocks in
    let there = ap (λ (r : Replica). r.file.layout) e.state ∙ e.ready.layout_is in
    filled c.args.layout.now c.args.table.now.rows c.args.replica.now c.write_table.new.replica c.conclude.new.replica
    (g.D.Disk.told c.args.disk.now) (g.D.Disk.told c.write_table.new.disk) (g.D.Disk.told c.conclude.new.disk) c.conclude.result
    (c.in-Ok.ensures.makes there (free_emptied c.args.layout.now s c.args.replica.now e n fits)) (c.conclude.ensures.makes
    (may_conclude c.args.layout.now s c.args.replica.now e n fits c.write_table.new.replica c.in-Ok.ensures.wrote))

pub returns-in-Ok-clause-room : goal.returns-in-Ok-clause-room
returns-in-Ok-clause-room g c = λ s e few. let n = block_count (rows_in_block c.args.layout.now) (map.len c.args.table.now.rows) in
    let fits = (tables_fit c.args.layout.now (map.len c.args.table.now.rows) few).blocks in
    let there = ap (λ (r : Replica). r.file.layout) e.state ∙ e.ready.layout_is in
    room_made c.args.layout.now s c.args.replica.now e n fits c.write_table.new.replica c.in-Ok.ensures.wrote
    c.conclude.new.replica (g.D.Disk.told c.args.disk.now) (g.D.Disk.told c.write_table.new.disk) (g.D.Disk.told c.conclude.new.disk)
    c.args.table.now.rows c.conclude.result (c.in-Ok.ensures.makes there (free_emptied c.args.layout.now s c.args.replica.now e n fits))
    (c.conclude.ensures.makes (may_conclude c.args.layout.now s c.args.replica.now e n fits c.write_table.new.replica c.in-Ok.ensures.wrote)) c.conclude.ensures.finished (goes_on c.conclude.result c.conclude.new.replica (g.D.Disk.told c.conclude.new.disk) c.conclude.ensures.goes)

pub returns-in-Err-clause-makes : goal.returns-in-Err-clause-makes
returns-in-Err-clause-makes g c = λ s e few. let n = block_count (rows_in_block c.args.layout.now) (map.len c.args.table.now.rows) in
    let fits = (tables_fit c.args.layout.now (map.len c.args.table.now.rows) few).blocks in
    let there = ap (λ (r : Replica). r.file.layout) e.state ∙ e.ready.layout_is in
    fill_ends c.args.layout.now c.args.table.now.rows (Unit {0})
    c.args.replica.now c.write_table.new.replica (g.D.Disk.told c.args.disk.now) (g.D.Disk.told c.write_table.new.disk) c.in-Err.ending
    (c.in-Err.ensures.makes there (free_emptied c.args.layout.now s c.args.replica.now e n fits))
