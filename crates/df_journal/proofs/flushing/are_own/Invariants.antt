-- Each prepare before this one stands in its slot.
use Rattle.{std.{proofs.Common.{◌≡◌, ◌<◌, ◌≤◌, ◌-◌, ℕ, length, Some}, specs.List.{slice_get}}, df_buffers.specs.Sounds.{Holding}}
use Rattle.df_journal.specs.Flush.{IsOwn}
use Rattle.df_journal.proofs.flushing.are_own.Given as goal

abbrev pub invariant-loop-i : goal.invariant-loop-i
invariant-loop-i l = record {
  within : l.i ≤ length l.group;
  own : (k : ℕ) (held : Holding) → k < l.i → slice_get l.group k ≡ Some held → IsOwn l.layout held;
}

abbrev pub decreases-loop-i : goal.decreases-loop-i
decreases-loop-i l = length l.group - l.i
