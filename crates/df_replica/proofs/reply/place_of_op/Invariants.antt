-- No session before the place has the op.
use Rattle.{std.proofs.Common.{◌-◌, ◌≤◌}, df_replica.proofs.ReplyTests.{LackBefore}}
use Rattle.df_replica.proofs.reply.place_of_op.Given as goal

abbrev pub invariant-loop-place : goal.invariant-loop-place
invariant-loop-place l = record {
  within : l.place ≤ l.count;
  lack : LackBefore l.op l.table.sessions l.place;
}

abbrev pub decreases-loop-place : goal.decreases-loop-place
decreases-loop-place l = l.count - l.place
