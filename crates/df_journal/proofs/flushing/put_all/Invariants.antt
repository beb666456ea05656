-- All puts from the start are those from this prepare on, after what was told, and so are the headers after the table.
use Rattle.{std.proofs.Common.{◌≡◌, ◌≤◌, ◌-◌, ℕ, length, drop}, df_headers.specs.Ring.{IsHeaderTable}}
use Rattle.df_journal.{specs.Flush.{MayPutGroup, group_puts, held_prepares, with_headers}, proofs.RingWrites.{LeadsAs}}
use Rattle.df_journal.proofs.flushing.put_all.Given as goal

abbrev pub invariant-loop-i : goal.invariant-loop-i
invariant-loop-i g l = record {
  within : l.i ≤ length l.group;
  leads : LeadsAs (group_puts l.layout l.group) (group_puts l.layout (drop l.i l.group)) (g.D.Disk.told l.initial.disk) (g.D.Disk.told l.disk);
  table : with_headers (held_prepares (drop l.i l.group)) l.table ≡ with_headers (held_prepares l.group) l.initial.table;
  valid : (cluster : ℕ) → MayPutGroup l.layout cluster l.group l.initial.table → IsHeaderTable l.layout cluster l.table;
  faults : g.D.Disk.faults l.disk ≡ g.D.Disk.faults l.initial.disk;
}

abbrev pub decreases-loop-i : goal.decreases-loop-i
decreases-loop-i g l = length l.group - l.i
