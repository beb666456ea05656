-- The rows are the entries of the map.
use Rattle.{std.proofs.Common.{sym, ◌∙◌}, df_rows.proofs.Held.{len_is}}
use Rattle.df_rows.proofs.table.ObjectTable.len.Goals as goal

pub returns-clause-value : goal.returns-clause-value
returns-clause-value c = let t = c.self.inside in
    c.len.ensures ∙ t.rows.ok.0 ∙ sym (len_is t.max _ t.rows.items c.args.self.now c.self.view_is c.self.invariant)
