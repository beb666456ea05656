-- The row stands in place of the one of its key, or in the gap for it, for which there is room.
use Rattle.std.{proofs.Common.{List, cond, ap, sym, subst, ◌∙◌, arith}, specs.{Vec.{vec_capacity}, List.{insert}}}
use Rattle.df_rows.{specs.{Rows.{Entry}, Sorted.{AreRows}}, proofs.{Edited.{rows_insert}, Held.{put_at_place, put_in_gap, room_in_gap, same_gap, same_place, table_of}}}
use Rattle.df_rows.proofs.table.ObjectTable.put.Goals as goal

pub invariant_of-self-in-Err : goal.invariant_of-self-in-Err
invariant_of-self-in-Err c = let t = c.self.inside in let gap = same_gap
    c.deref.result.now t.rows.items c.key.result c.args.row.0 c.in-Err.at c.deref.ensures.value c.key.ensures.key c.in-Err.ensures.absent in
    let free = room_in_gap t.max _ t.rows.items c.args.self.now c.self.view_is c.self.invariant c.args.row.0 c.in-Err.at gap c.requires in
    let ok = c.insert.ensures.succeeds (omega (arith, t.rows.ok.0, free, c.self.invariant.reserved)) in
    let items = c.insert.ensures.items ∙ ap (λ b. cond b (insert t.rows.items c.in-Err.at c.args.row) t.rows.items) ok in
    subst (λ (l : List Entry). AreRows t.max (vec_capacity c.insert.new.self) l) (sym items)
    (rows_insert t.max _ t.rows.items c.self.invariant _ c.args.row c.in-Err.at c.insert.ensures.capacity free c.key.ensures.fits gap)

pub returns-in-Ok : goal.returns-in-Ok
returns-in-Ok c = let t = c.self.inside in
    put_at_place t.max _ t.rows.items c.args.self.now c.self.view_is c.self.invariant c.args.row c.in-Ok.at (same_place
    c.deref.result.now t.rows.items c.key.result c.args.row.0 c.in-Ok.at c.deref.ensures.value c.key.ensures.key c.in-Ok.ensures.found)

pub returns-in-Err : goal.returns-in-Err
returns-in-Err c = let t = c.self.inside in let gap = same_gap
    c.deref.result.now t.rows.items c.key.result c.args.row.0 c.in-Err.at c.deref.ensures.value c.key.ensures.key c.in-Err.ensures.absent in
    let free = room_in_gap t.max _ t.rows.items c.args.self.now c.self.view_is c.self.invariant c.args.row.0 c.in-Err.at gap c.requires in
    let ok = c.insert.ensures.succeeds (omega (arith, t.rows.ok.0, free, c.self.invariant.reserved)) in
    let items = c.insert.ensures.items ∙ ap (λ b. cond b (insert t.rows.items c.in-Err.at c.args.row) t.rows.items) ok in
    ap (table_of t.max) items ∙ put_in_gap t.max _ t.rows.items c.args.self.now c.self.view_is c.self.invariant c.args.row c.in-Err.at gap
