-- The counters are those of the slots that were passed.
use Rattle.{std.proofs.Common.{◌≡◌}, df_journal.proofs.Counted.{CountsSlots}}
use Rattle.df_journal.proofs.counts.count_rings.Given as goal

abbrev pub invariant-loop-slot : goal.invariant-loop-slot
invariant-loop-slot l = CountsSlots l.slot-items l.slot-index l.seen × (l.seen.reply_top ≡ 0)
