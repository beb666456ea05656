-- The rows are the entries of the map.
use Rattle.{std.proofs.Common.{sym, ◌∙◌}, df_rows.proofs.Held.{entries_are}}
use Rattle.df_rows.proofs.table.ObjectTable.rows.Goals as goal

pub returns-clause-entries : goal.returns-clause-entries
returns-clause-entries c = let t = c.self.inside in
    c.deref.ensures.value ∙ sym (entries_are t.max _ t.rows.items c.args.self.now c.self.view_is c.self.invariant)
