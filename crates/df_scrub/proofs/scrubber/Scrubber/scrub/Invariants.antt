-- The tour is on its way, and nothing has failed.
use Rattle.{std.proofs.Common.{◌≡◌, length, vec_len, vec_capacity}, df_scrub.{specs.Scrubber.{left_in}, proofs.Touring.{IsTouring}}}
use Rattle.df_scrub.proofs.scrubber.Scrubber.scrub.Given as goal

abbrev pub invariant-loop-address : goal.invariant-loop-address
invariant-loop-address g l = record {
  touring : IsTouring l.fn.grid (g.D.Disk.told l.fn.disk) l.fn.self.findings l.self l.report.items (vec_len l.report);
  room : vec_capacity l.report ≡ vec_capacity l.fn.report;
  grid : l.grid ≡ l.fn.grid;
  same : g.D.Disk.told l.disk ≡ g.D.Disk.told l.fn.disk;
  faults : g.D.Disk.faults l.disk ≡ g.D.Disk.faults l.fn.disk;
}

abbrev pub decreases-loop-address : goal.decreases-loop-address
decreases-loop-address g l = length (left_in l.grid l.self)
