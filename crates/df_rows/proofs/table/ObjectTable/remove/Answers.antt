-- The row at the key's place is gone; where there is none the map stays.
use Rattle.{std.proofs.Common.{refl, ap, ◌∙◌}, df_rows.proofs.Held.{remove_at, remove_none, same_gap, same_place, table_of}}
use Rattle.df_rows.proofs.table.ObjectTable.remove.Goals as goal

pub returns-in-Ok : goal.returns-in-Ok
returns-in-Ok c = let t = c.self.inside in ap (table_of t.max) c.remove.ensures.items
    ∙ remove_at t.max _ t.rows.items c.args.self.now c.self.view_is c.self.invariant c.args.key c.in-Ok.at
    (same_place c.deref.result.now t.rows.items c.args.key c.args.key c.in-Ok.at c.deref.ensures.value refl c.in-Ok.ensures.found)

pub returns-in_default : goal.returns-in_default
returns-in_default c = let t = c.self.inside in
    remove_none t.max _ t.rows.items c.args.self.now c.self.view_is c.self.invariant c.args.key c.in_default.field-0
    (same_gap c.deref.result.now t.rows.items c.args.key c.args.key c.in_default.field-0 c.deref.ensures.value refl c.in_default.ensures.absent)
