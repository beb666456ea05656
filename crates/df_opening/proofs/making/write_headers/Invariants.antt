-- The sectors before this one are written.
use Rattle.{std.proofs.Common.{◌≡◌, ◌≤◌, ◌-◌, ◌/◌}, df_disk.specs.Adds.{after_all}, df_units.specs.Making.{header_writes}}
use Rattle.df_opening.specs.Making.{sectors_of}
use Rattle.df_opening.proofs.making.write_headers.Given as goal

abbrev pub invariant-loop-sector : goal.invariant-loop-sector
invariant-loop-sector g l = record {
  within : l.sector ≤ l.layout.slots / 16;
  room : l.room.layout ≡ l.layout;
  written : g.D.Disk.told l.disk ≡ after_all (header_writes l.layout 0 (sectors_of 0 l.sector l.headers)) (g.D.Disk.told l.initial.disk);
  faults : g.D.Disk.faults l.disk ≡ g.D.Disk.faults l.initial.disk;
}

abbrev pub decreases-loop-sector : goal.decreases-loop-sector
decreases-loop-sector g l = l.layout.slots / 16 - l.sector
