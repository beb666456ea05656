-- The fields are those of the row.
use Rattle.{std.proofs.Common.{ap, subst}, df_rows.specs.Rows.{Entry, IsEntry}}
use Rattle.df_rows.proofs.row.Row.key.Goals as goal

pub returns : goal.returns
returns c = record { key = ap (λ (e : Entry). e.0) c.self.view_is; fits = subst IsEntry c.self.view_is c.self.invariant }
