-- Each op so far has its session.
use Rattle.{std.proofs.Common.{◌≡◌, ℕ, ◌<◌, ◌≤◌, true}, df_checkpoint.specs.Waiting.{has_op}}
use Rattle.df_checkpoint.proofs.reading.pending.Given as goal

abbrev pub invariant-loop-before : goal.invariant-loop-before
invariant-loop-before l = (n : ℕ) → l.fn.replies < n → n ≤ l.before → has_op n l.fn.sessions ≡ true
