-- Those up to this op are in the list.
use Rattle.{std.proofs.Common.{◌-◌, ◌≡◌, ◌≤◌}, df_recovery.specs.Waiting.{waiting_in}}
use Rattle.df_recovery.proofs.surveying.waiting_of.Given as goal

abbrev pub invariant-loop-op : goal.invariant-loop-op
invariant-loop-op l = record {
  from : l.replies ≤ l.op;
  to : l.op ≤ l.head;
  items : l.waiting.items ≡ waiting_in l.layout.slots l.slots l.headers l.replies l.op;
}

abbrev pub decreases-loop-op : goal.decreases-loop-op
decreases-loop-op l = l.head - l.op
