-- Each turn writes one more sector, or a part of the writes was made.
use Rattle.{std.proofs.Common.{◌∙◌, refl, arith}, df_disk.proofs.Laws.{adds_failed}}
use Rattle.df_headers.{specs.Ring.{sector_writes}, proofs.Laws.{table_written}}
use Rattle.df_journal.proofs.RingWrites.{in_ring, in_table, leads_end, leads_first, may_write, turn_fails, turn_leads}
use Rattle.df_journal.proofs.settling.write_sectors.Goals as goal

pub loop-i-init : goal.loop-i-init
loop-i-init g c = record { within = omega arith; room = refl; leads = leads_first _ _; faults = refl }

pub write_sector-requires-clause-sector : goal.write_sector-requires-clause-sector
write_sector-requires-clause-sector g c = in_table c.args.room.now.layout c.args.table.now
    c.args.sectors.now c.loop-i.i _ (omega (arith, c.loop-i-test.true)) c.requires.table.0 c.requires.table.1 c.requires.sectors

pub write_sector-requires-clause-few : goal.write_sector-requires-clause-few
write_sector-requires-clause-few g c =
    in_ring c.args.room.now.layout c.args.table.now c.args.sectors.now c.loop-i.i _ (omega (arith, c.loop-i-test.true)) c.requires.sectors

pub write_sector-requires-clause-sealed : goal.write_sector-requires-clause-sealed
write_sector-requires-clause-sealed g c = let may = may_write c.args.room.now.layout c.args.table.now
    c.args.sectors.now c.loop-i.i _ (omega (arith, c.loop-i-test.true)) c.requires.table.0 c.requires.table.1 c.requires.sectors in
    (table_written c.args.room.now.layout c.requires.table.0 _ c.args.table.now may.0 may.1).sixteen

pub returns-in_err-write_sector-clause-events : goal.returns-in_err-write_sector-clause-events
returns-in_err-write_sector-clause-events g c = adds_failed _ _ _ _ c.from_residual.ensures.0
    (turn_fails c.args.room.now.layout c.args.table.now c.args.sectors.now c.loop-i.i _ (omega (arith, c.loop-i-test.true)) c.loop-i.room.layout _ _ (g.D.Disk.told c.loop-i.disk) (g.D.Disk.told c.write_sector.new.disk) c.loop-i.invariant.room c.loop-i.invariant.leads c.in_err-write_sector.ensures.events)

pub loop-i-preserved : goal.loop-i-preserved
loop-i-preserved g c = record {
  within = omega (arith, c.loop-i-test.true);
  room = c.write_sector.ensures.room ∙ c.loop-i.invariant.room;
  leads = turn_leads c.args.room.now.layout c.args.table.now c.args.sectors.now c.loop-i.i _ (omega (arith, c.loop-i-test.true)) c.loop-i.room.layout _ _ (g.D.Disk.told c.loop-i.disk) (g.D.Disk.told c.write_sector.new.disk) c.loop-i.invariant.room c.loop-i.invariant.leads c.in_ok-write_sector.ensures.events;
  faults = c.in_ok-write_sector.ensures.cause.same ∙ c.loop-i.invariant.faults;
}

pub returns-clause-events : goal.returns-clause-events
returns-clause-events g c = leads_end c.args.room.now.layout c.args.table.now c.args.sectors.now c.loop-i.i (sector_writes
    c.args.room.now.layout c.args.table.now c.args.sectors.now) _ _ (omega (arith, c.loop-i-test.false)) c.loop-i.invariant.leads
