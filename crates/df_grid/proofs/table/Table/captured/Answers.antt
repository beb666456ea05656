-- What is looked up is the entry, where it is captured.
use Rattle.{std.proofs.Common.{sym, ap, ◌∙◌}, df_model.specs.Blocks.{sum_at}, df_trailer.specs.Rooms.{number_in}}
use Rattle.df_grid.{specs.Table.{TableState, is_captured}, proofs.{Held.{look_none, look_some}, Views.{known_number}}}
use Rattle.df_grid.proofs.table.Table.captured.Goals as goal

pub returns-in_err-entry : goal.returns-in_err-entry
returns-in_err-entry c = let s = c.self.inside in
    ap number_in c.from_residual.ensures ∙ sym (look_none is_captured s.entries c.args.address (sym c.in_err-entry.ensures))
    ∙ ap (λ (v : TableState). sum_at c.args.address v.blocks.captured) c.self.view_is

pub returns : goal.returns
returns c = let s = c.self.inside in
    ap number_in c.then_some.ensures ∙ known_number c.in_ok-entry.entry.captured c.in_ok-entry.entry.checksum
    ∙ sym (look_some is_captured s.entries c.args.address c.in_ok-entry.entry (sym c.in_ok-entry.ensures))
    ∙ ap (λ (v : TableState). sum_at c.args.address v.blocks.captured) c.self.view_is
