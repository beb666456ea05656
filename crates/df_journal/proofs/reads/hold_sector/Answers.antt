-- The sector that was read is the slot's.
use Rattle.df_journal.proofs.Scans.{holds_read}
use Rattle.df_journal.proofs.reads.hold_sector.Goals as goal

pub returns-then-slot-eq0-clause-holds : goal.returns-then-slot-eq0-clause-holds
returns-then-slot-eq0-clause-holds g c =
    holds_read c.args.layout.now c.args.slot (g.D.Disk.told c.args.disk.now) c.read_sector.new.room.bytes
    c.read_sector.result c.if-slot-eq0.true (c.read_sector.ensures.bytes c.args.layout.now) c.read_sector.ensures.size
