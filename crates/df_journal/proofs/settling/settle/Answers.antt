-- A sync, the sectors, and a sync.
use Rattle.df_disk.proofs.Laws.{adds_failed}
use Rattle.df_journal.{specs.Append.{settle_events}, proofs.RingWrites.{settle_adds, settle_are_steps, settle_fails}}
use Rattle.df_journal.proofs.settling.settle.Goals as goal

pub returns-in_err-write_sectors-clause-events : goal.returns-in_err-write_sectors-clause-events
returns-in_err-write_sectors-clause-events g c =
    adds_failed (settle_events c.args.room.now.layout c.args.table.now c.args.sectors.now) (g.D.Disk.told c.args.disk.now)
    (g.D.Disk.told c.write_sectors.new.disk) c.from_residual-in_err-write_sectors.result c.from_residual-in_err-write_sectors.ensures.0
    (settle_fails c.args.room.now.layout c.args.table.now c.args.sectors.now (g.D.Disk.told c.args.disk.now)
    (g.D.Disk.told c.sync.new.self) (g.D.Disk.told c.write_sectors.new.disk) c.in_ok-sync.ensures.ok c.in_err-write_sectors.ensures.events)

pub returns-clause-events : goal.returns-clause-events
returns-clause-events g c = settle_adds c.args.room.now.layout c.args.table.now c.args.sectors.now (g.D.Disk.told c.args.disk.now)
    (g.D.Disk.told c.sync.new.self) (g.D.Disk.told c.write_sectors.new.disk) (g.D.Disk.told c.sync-2.new.self) c.sync-2.result
    c.in_ok-sync.ensures.ok c.in_ok-write_sectors.ensures.events c.sync-2.ensures.ok c.sync-2.ensures.err

pub returns-in_err-sync-clause-steps : goal.returns-in_err-sync-clause-steps
returns-in_err-sync-clause-steps g c = settle_are_steps c.args.room.now.layout c.args.table.now c.args.sectors.now c.requires.sectors

pub returns-in_err-write_sectors-clause-steps : goal.returns-in_err-write_sectors-clause-steps
returns-in_err-write_sectors-clause-steps g c = settle_are_steps c.args.room.now.layout c.args.table.now c.args.sectors.now c.requires.sectors

pub returns-clause-steps : goal.returns-clause-steps
returns-clause-steps g c = settle_are_steps c.args.room.now.layout c.args.table.now c.args.sectors.now c.requires.sectors
