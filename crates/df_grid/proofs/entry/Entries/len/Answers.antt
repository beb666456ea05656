-- The checksums are as many as the entries.
use Rattle.{std.proofs.Common.{length, ap, arith}, df_grid.proofs.Zips.{length_entries}}
use Rattle.df_grid.proofs.entry.Entries.len.Goals as goal

pub returns : goal.returns
returns c = let s = c.self.inside in
    omega (arith, c.len.ensures, s.checks.ok.0, length_entries s.checks.items s.marks.items c.self.invariant, ap length c.self.view_is)
