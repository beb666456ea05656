-- The prepares that were passed are taken and fit: whole groups, which end at the tail's end, and after them a part of one.
use Rattle.{std.proofs.Common.{◌≡◌, ◌+◌, ◌-◌, ◌≤◌, ◌^◌}, df_format.specs.Spelling.{IsCheck}}
use Rattle.df_theory.specs.{Units.{Units}, Shape.{Shape}, View.{Checkpoint}}
use Rattle.df_journal.{specs.{Shows.{TellsRings}, Tail.{AreNumbered, AreUnstored, BeginsAt}}, proofs.Walks.{IsTakenWalk}}
use Rattle.df_journal.proofs.reach.find_reach.Given as goal

abbrev pub invariant-loop-at : goal.invariant-loop-at
invariant-loop-at l = record {
  from : l.found.start.op ≤ l.tail.op;
  order : l.tail.op ≤ l.at.last.op;
  within : l.at.last.op ≤ l.found.start.op + l.layout.slots;
  most : l.at.last.op ≤ 2 ^ 62;
  checksum : IsCheck l.tail.checksum;
  last_checksum : IsCheck l.at.last.checksum;
  start : l.tail.op ≡ l.found.start.op → l.tail.checksum ≡ l.checksum;
  places : l.sessions.max ≡ l.initial.sessions.max;
  places_on : l.ahead.max ≡ l.initial.sessions.max;
  unstored : AreUnstored l.initial.sessions.sessions → AreUnstored l.sessions.sessions;
  unstored_on : AreUnstored l.initial.sessions.sessions → AreUnstored l.ahead.sessions;
  numbered : AreNumbered l.initial.sessions.sessions → AreNumbered l.sessions.sessions;
  numbered_on : AreNumbered l.initial.sessions.sessions → AreNumbered l.ahead.sessions;
  walk : (sh : Shape) (image : Units) (b : Checkpoint)
      → TellsRings l.layout image l.found → BeginsAt sh b l.layout l.found.start l.checksum l.initial.sessions.sessions
      → IsTakenWalk l.layout.clients l.layout.slots image b l.tail l.sessions.sessions l.at l.ahead.sessions;
}

abbrev pub decreases-loop-at : goal.decreases-loop-at
decreases-loop-at l = l.found.start.op + l.layout.slots - l.at.last.op
