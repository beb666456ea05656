-- What is looked up is the entry, where it is live.
use Rattle.{std.proofs.Common.{sym, ap, ◌∙◌, arith}, df_model.specs.Blocks.{sum_at}, df_trailer.specs.Rooms.{number_in}}
use Rattle.df_grid.{specs.Table.{TableState, is_live}, proofs.{Held.{look_none, look_some}, Views.{if_none, if_some, entry_is, known_number}}}
use Rattle.df_grid.proofs.table.Table.live.Goals as goal

pub returns-in_err-entry-clause-checksum : goal.returns-in_err-entry-clause-checksum
returns-in_err-entry-clause-checksum c = let s = c.self.inside in
    ap number_in c.from_residual.ensures ∙ sym (look_none is_live s.entries c.args.address (sym c.in_err-entry.ensures))
    ∙ ap (λ (v : TableState). sum_at c.args.address v.blocks.live) c.self.view_is

pub returns-clause-checksum : goal.returns-clause-checksum
returns-clause-checksum c = let s = c.self.inside in
    ap number_in c.then_some.ensures ∙ known_number c.in_ok-entry.entry.live c.in_ok-entry.entry.checksum
    ∙ sym (look_some is_live s.entries c.args.address c.in_ok-entry.entry (sym c.in_ok-entry.ensures))
    ∙ ap (λ (v : TableState). sum_at c.args.address v.blocks.live) c.self.view_is

pub returns-in_err-entry-clause-inside : goal.returns-in_err-entry-clause-inside
returns-in_err-entry-clause-inside c = if_none _ c.from_residual.result c.from_residual.ensures

pub returns-clause-inside : goal.returns-clause-inside
returns-clause-inside c = let s = c.self.inside in
    let has = (entry_is s.entries c.args.address c.in_ok-entry.entry (sym c.in_ok-entry.ensures)).0 in
    if_some _ c.then_some.result (has.0, omega (arith, has.1, ap (λ (v : TableState). v.size) c.self.view_is))
