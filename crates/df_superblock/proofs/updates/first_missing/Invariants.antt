use Rattle.{std.proofs.Common.{◌<◌, ◌≤◌, ℕ}, df_superblock.specs.Calls.{IsCopyRead}}
use Rattle.df_superblock.proofs.updates.first_missing.Given as goal

abbrev pub invariant-loop-number : goal.invariant-loop-number
invariant-loop-number l = (n : ℕ) → l.from ≤ n → n < l.number → IsCopyRead l.slots l.content n
