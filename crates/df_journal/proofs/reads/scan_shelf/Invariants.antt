-- The slots before this one are in the table.
use Rattle.{std.proofs.Common.{◌≡◌, ◌-◌, ◌≤◌, length}, df_journal.specs.Scanned.{AreSeen, IsHeld}}
use Rattle.df_journal.proofs.reads.scan_shelf.Given as goal

abbrev pub invariant-loop-slot : goal.invariant-loop-slot
invariant-loop-slot g l = record {
  within : l.slot ≤ l.layout.slots;
  size : length l.found.slots ≡ l.layout.slots;
  start : l.found.start ≡ l.start;
  shelf : l.shelf.layout ≡ l.layout;
  sector : l.sector.layout ≡ l.initial.sector.layout;
  same : g.D.Disk.told l.disk ≡ g.D.Disk.told l.initial.disk;
  faults : g.D.Disk.faults l.disk ≡ g.D.Disk.faults l.initial.disk;
  held : IsHeld l.layout (g.D.Disk.told l.initial.disk) l.slot l.sector.bytes;
  seen : AreSeen l.layout l.start.cluster (g.D.Disk.told l.initial.disk) l.slot l.found.slots;
}

abbrev pub decreases-loop-slot : goal.decreases-loop-slot
decreases-loop-slot g l = l.layout.slots - l.slot
