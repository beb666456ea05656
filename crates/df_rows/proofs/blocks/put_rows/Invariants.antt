-- The rows gone over are put.
use Rattle.{std.proofs.Common.{◌≡◌, ◌*◌, take}, df_rows.specs.Rows.{rows_of}}
use Rattle.df_rows.proofs.blocks.put_rows.Given as goal

abbrev pub invariant-loop-k : goal.invariant-loop-k
invariant-loop-k l = take (64 * l.k) l.into ≡ rows_of (take l.k l.rows)
