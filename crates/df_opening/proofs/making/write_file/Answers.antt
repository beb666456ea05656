-- The writes of the ring, and the sync and the copies after them.
use Rattle.{df_disk.proofs.Laws.{part_then, adds_then}, df_units.specs.Making.{header_writes}, df_opening.specs.Making.{sectors_in}}
use Rattle.df_opening.proofs.making.write_file.Goals as goal

pub returns-in-Err-clause-events : goal.returns-in-Err-clause-events
returns-in-Err-clause-events g c = part_then (header_writes c.args.layout.now 0 (sectors_in c.args.layout.now c.args.headers.now))
    _ (g.D.Disk.told c.args.disk.now) (g.D.Disk.told c.write_headers.new.disk) c.in-Err.ensures.events

pub returns-in-Ok-clause-events : goal.returns-in-Ok-clause-events
returns-in-Ok-clause-events g c = adds_then (header_writes c.args.layout.now 0 (sectors_in c.args.layout.now c.args.headers.now)) _ (g.D.Disk.told c.args.disk.now) (g.D.Disk.told c.write_headers.new.disk) (g.D.Disk.told c.write_synced.new.disk) c.write_synced.result c.in-Ok.ensures.events c.write_synced.ensures.events
