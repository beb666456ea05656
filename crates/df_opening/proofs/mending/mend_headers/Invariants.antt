-- The sectors before this one are written, where the list has a slot of them.
use Rattle.{std.proofs.Common.{◌≡◌, ◌≤◌, ◌-◌, ◌/◌}, df_disk.specs.Adds.{after_all}, df_headers.specs.Ring.{sector_writes}}
use Rattle.df_opening.specs.Mending.{sectors_to, some_of}
use Rattle.df_opening.proofs.mending.mend_headers.Given as goal

abbrev pub invariant-loop-sector : goal.invariant-loop-sector
invariant-loop-sector g l = record {
  within : l.sector ≤ l.file.layout.slots / 16;
  room : l.room.layout ≡ l.file.layout;
  told : g.D.Disk.told l.disk ≡ after_all (sector_writes l.file.layout l.headers (sectors_to l.sector l.mends)) (g.D.Disk.told l.initial.disk);
  faults : g.D.Disk.faults l.disk ≡ g.D.Disk.faults l.initial.disk;
  wrote : l.wrote ≡ some_of (sectors_to l.sector l.mends);
}

abbrev pub decreases-loop-sector : goal.decreases-loop-sector
decreases-loop-sector g l = l.file.layout.slots / 16 - l.sector
