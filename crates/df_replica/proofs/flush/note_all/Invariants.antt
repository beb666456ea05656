-- What was noted, with what is still to be, is the whole.
use Rattle.{std.proofs.Common.{◌≡◌, ◌≤◌, ◌+◌, ◌-◌, ◌++◌, length, drop}, df_journal.specs.Flush.{held_prepares}}
use Rattle.df_replica.specs.Flushing.{HavePlaces, checks_of, last_check, with_requests}
use Rattle.df_replica.proofs.flush.note_all.Given as goal

abbrev pub invariant-loop-i : goal.invariant-loop-i
invariant-loop-i l = record {
  within : l.i ≤ length l.group;
  head : l.head ≡ l.initial.head + l.i;
  sum : last_check l.head_checksum (held_prepares (drop l.i l.group)) ≡ last_check l.initial.head_checksum (held_prepares l.group);
  count : length l.waiting.items ≡ length l.initial.waiting.items + l.i;
  waiting : l.waiting.items ++ checks_of (held_prepares (drop l.i l.group)) ≡ l.initial.waiting.items ++ checks_of (held_prepares l.group);
  max : l.sessions.max ≡ l.initial.sessions.max;
  table : with_requests (held_prepares (drop l.i l.group)) l.sessions.sessions
      ≡ with_requests (held_prepares l.group) l.initial.sessions.sessions;
  places : HavePlaces l.sessions.max l.sessions.sessions (held_prepares (drop l.i l.group));
}

abbrev pub decreases-loop-i : goal.decreases-loop-i
decreases-loop-i l = length l.group - l.i
