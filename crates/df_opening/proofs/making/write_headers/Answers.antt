-- Each turn writes one more sector, or a part of the writes was made.
use Rattle.{std.proofs.Common.{◌≡◌, ◌/◌, ◌∙◌, subst, arith}, df_disk.specs.Adds.{AddsPart, after_all}}
use Rattle.{df_layout.specs.declared.layout.Layout.{Layout}, df_headers.specs.Ring.{sector_events}}
use Rattle.df_opening.proofs.NewRing.{one_fails, one_more}
use Rattle.df_opening.proofs.making.write_headers.Goals as goal

pub returns-in-Err-clause-events : goal.returns-in-Err-clause-events
returns-in-Err-clause-events g c = one_fails c.args.layout.now c.args.headers.now c.loop-sector.sector (c.args.layout.now.slots / 16)
    (g.D.Disk.told c.args.disk.now) (g.D.Disk.told c.loop-sector.disk) (g.D.Disk.told c.write_sector.new.disk)
    c.loop-sector-test.true c.loop-sector.invariant.written (subst (λ (l : Layout). AddsPart (sector_events l c.loop-sector.sector c.args.headers.now) (g.D.Disk.told c.loop-sector.disk) (g.D.Disk.told c.write_sector.new.disk)) c.loop-sector.invariant.room c.in-Err.ensures.events)

pub loop-sector-preserved : goal.loop-sector-preserved
loop-sector-preserved g c = record {
  within = omega (arith, c.loop-sector-test.true);
  room = c.write_sector.ensures.room ∙ c.loop-sector.invariant.room;
  written = one_more c.args.layout.now c.args.headers.now c.loop-sector.sector (g.D.Disk.told c.args.disk.now)
      (g.D.Disk.told c.loop-sector.disk) (g.D.Disk.told c.write_sector.new.disk) c.loop-sector.invariant.written
      (subst (λ (l : Layout). g.D.Disk.told c.write_sector.new.disk ≡ after_all (sector_events l c.loop-sector.sector c.args.headers.now)
      (g.D.Disk.told c.loop-sector.disk)) c.loop-sector.invariant.room c.in-Ok.ensures.events);
  faults = c.in-Ok.ensures.cause.same ∙ c.loop-sector.invariant.faults;
}
