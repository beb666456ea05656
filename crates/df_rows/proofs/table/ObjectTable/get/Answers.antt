-- What stands at the key's place is what the map has, and in a gap there is nothing.
use Rattle.std.proofs.{Common.{[], Some, refl, ap, sym, ◌∙◌}, lemmas.List.{get_or_default}}
use Rattle.df_rows.{specs.Rows.{Entry}, proofs.Held.{get_at, get_gap, same_gap, same_place}}
use Rattle.df_rows.proofs.table.ObjectTable.get.Goals as goal

pub returns-in-Ok : goal.returns-in-Ok
returns-in-Ok c = let t = c.self.inside in
    let at = same_place c.deref.result.now t.rows.items c.args.key c.args.key c.in-Ok.at c.deref.ensures.value refl c.in-Ok.ensures.found in
    let read = c.index-row.ensures ∙ get_or_default t.rows.items c.in-Ok.at c.index-row.result.now (0, []) at.inside in
    ap Some (c.value.ensures.value ∙ ap (λ (e : Entry). e.1) read)
    ∙ sym (get_at t.max _ t.rows.items c.args.self.now c.self.view_is c.self.invariant c.args.key c.in-Ok.at at)

pub returns-in-Err : goal.returns-in-Err
returns-in-Err c = let t = c.self.inside in
    sym (get_gap t.max _ t.rows.items c.args.self.now c.self.view_is c.self.invariant c.args.key c.in-Err.field-0
    (same_gap c.deref.result.now t.rows.items c.args.key c.args.key c.in-Err.field-0 c.deref.ensures.value refl c.in-Err.ensures.absent))
