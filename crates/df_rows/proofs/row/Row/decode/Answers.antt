-- The key, the value and the zeros after it are those of the row.
use Rattle.{std.proofs.Common.{refl, ap, sym, ◌∙◌, arith}, df_rows.{specs.Rows.{row_of}, proofs.Entries.{row_read}}}
use Rattle.df_rows.proofs.row.Row.decode.Goals as goal

pub returns-clause-found : goal.returns-clause-found
returns-clause-found c = row_read c.args.bytes.now
    _ c.split_at.result.0.now c.split_at.result.1.now c.from-length.result c.requires refl c.split_at.ensures.front c.split_at.ensures.back
    (λ i. omega (arith, c.type_inv.bytes i)) c.from-length.ensures (omega arith) (c.are_zeros.ensures.0 c.if-not-are_zeros.false)
    ∙ ap row_of ((λ i. (sym c.u128_at.ensures i, c.split_at.result.0.now)) ∙ sym c.new.ensures)
