-- The named prepares up to an op were noted.
use Rattle.{std.proofs.Common.{◌≡◌, ◌-◌, ◌≤◌}, df_mirror.proofs.HeadSessions.{HasNoted}}
use Rattle.df_mirror.proofs.replies.sessions_at_head.Given as goal

abbrev pub invariant-loop-op : goal.invariant-loop-op
invariant-loop-op l = record {
  low : l.fields.op ≤ l.op;
  high : l.op ≤ l.fields.head;
  places : l.sessions.max ≡ l.fn.sessions.max;
  noted : HasNoted l.fn.base l.fn.slots l.fn.sessions.sessions l.sessions.sessions (l.op - l.fields.op);
}

abbrev pub decreases-loop-op : goal.decreases-loop-op
decreases-loop-op l = l.fields.head - l.op
