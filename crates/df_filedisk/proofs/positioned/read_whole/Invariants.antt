-- The buffer keeps its length, and is filled up to a place within it.
use Rattle.std.proofs.Common.{◌≤◌, ◌-◌, length}
use Rattle.df_filedisk.proofs.positioned.read_whole.Given as goal

abbrev pub invariant-loop-done : goal.invariant-loop-done
invariant-loop-done g l = l.done ≤ length l.into

abbrev pub decreases-loop-done : goal.decreases-loop-done
decreases-loop-done g l = length l.initial.into - l.done
