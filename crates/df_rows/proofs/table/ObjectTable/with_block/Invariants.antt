-- What the rest of the body gives the table, the whole body gives the first one.
use Rattle.{std.proofs.Common.{◌*◌, drop}, df_rows.proofs.Taken.{Carries}}
use Rattle.df_rows.proofs.table.ObjectTable.with_block.Given as goal

abbrev pub invariant-loop-k : goal.invariant-loop-k
invariant-loop-k l = Carries l.initial.self l.self l.body (drop (64 * l.k) l.body)
