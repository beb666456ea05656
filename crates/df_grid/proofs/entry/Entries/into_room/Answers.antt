-- Both rooms have as many places as there are entries.
use Rattle.{std.proofs.Common.{length, sym, ap, ◌∙◌}, df_grid.proofs.Zips.{length_entries}}
use Rattle.df_grid.proofs.entry.Entries.into_room.Goals as goal

pub returns-clause-checks : goal.returns-clause-checks
returns-clause-checks c = let s = c.self.inside in sym (length_entries s.checks.items s.marks.items c.self.invariant) ∙ ap length c.self.view_is

pub returns-clause-marks : goal.returns-clause-marks
returns-clause-marks c = let s = c.self.inside in
    sym c.self.invariant ∙ sym (length_entries s.checks.items s.marks.items c.self.invariant) ∙ ap length c.self.view_is
