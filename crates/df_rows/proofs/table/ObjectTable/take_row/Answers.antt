-- The bytes are one row, whose key isn't new.
use Rattle.std.proofs.{Common.{ℕ, ap, sym, ◌∙◌}, lemmas.Bool.{false≢true}}
use Rattle.df_rows.{specs.{Rows.{Entry}, Tables.{IsNew}}, proofs.Entries.{one_row}}
use Rattle.df_rows.proofs.table.ObjectTable.take_row.Goals as goal

pub returns-then-not-is_new-clause-refused : goal.returns-then-not-is_new-clause-refused
returns-then-not-is_new-clause-refused c = λ entry is same fresh.
    let one = one_row entry c.in-Some.row is c.in-Some.ensures.fits (sym same ∙ c.in-Some.ensures.found) in
    let key = ap (λ (e : Entry). e.0) one ∙ sym c.key.ensures.key in
    false≢true (sym c.if-not-is_new.true ∙ c.is_new.ensures.1 (rw key at fresh))
