-- All writes from the start are those from this sector on, after what was told.
use Rattle.{std.proofs.Common.{◌≡◌, ◌≤◌, ◌-◌, length, drop}, df_headers.specs.Ring.{sector_writes}, df_journal.proofs.RingWrites.{LeadsAs}}
use Rattle.df_journal.proofs.settling.write_sectors.Given as goal

abbrev pub invariant-loop-i : goal.invariant-loop-i
invariant-loop-i g l = record {
  within : l.i ≤ length l.sectors;
  room : l.room.layout ≡ l.initial.room.layout;
  leads : LeadsAs (sector_writes l.initial.room.layout l.table l.sectors)
      (sector_writes l.initial.room.layout l.table (drop l.i l.sectors)) (g.D.Disk.told l.initial.disk) (g.D.Disk.told l.disk);
  faults : g.D.Disk.faults l.disk ≡ g.D.Disk.faults l.initial.disk;
}

abbrev pub decreases-loop-i : goal.decreases-loop-i
decreases-loop-i g l = length l.sectors - l.i
