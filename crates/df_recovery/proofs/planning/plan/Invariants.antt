-- The slots before this one are planned, and listed where they need it.
use Rattle.{std.proofs.Common.{◌-◌, ◌≡◌, ◌≤◌, ◌+◌, ◌++◌, length, vec_len, vec_capacity}, df_theory.specs.Units.{Units}}
use Rattle.{df_journal.specs.Shows.{TellsRings}, df_recovery.specs.Plan.{ArePlanned, copy_mends, needs_header, shown_class, slot_mends}}
use Rattle.df_recovery.proofs.planning.plan.Given as goal

abbrev pub invariant-loop-slot : goal.invariant-loop-slot
invariant-loop-slot l = record {
  within : l.slot ≤ l.layout.slots;
  size : length l.headers ≡ l.layout.slots;
  count : vec_len l.mends ≤ 4 + l.slot;
  room : vec_capacity l.mends ≡ vec_capacity l.fn.mends;
  planned : ArePlanned l.cluster l.found l.head l.slot l.headers;
  list : (image : Units) → TellsRings l.layout image l.found → l.mends.items
      ≡ copy_mends l.copies l.members ++ slot_mends (needs_header l.layout l.found.start l.head image) (shown_class l.found) l.slot;
}

abbrev pub decreases-loop-slot : goal.decreases-loop-slot
decreases-loop-slot l = l.layout.slots - l.slot
