use Rattle.{std.{proofs.Common.{◌≡◌, ℕ, ◌<◌, ◌≤◌, ◌+◌, ◌/◌}, specs.Int.{bit_at}}, df_trailer.specs.Rooms.{bits_in_words}}
use Rattle.df_trailer.proofs.bitmap.has_unused.Given as goal

abbrev pub invariant-loop-place : goal.invariant-loop-place
invariant-loop-place l = (k : ℕ) → l.blocks ≤ k → k < l.place → bit_at (bits_in_words ((l.blocks + 7) / 8) l.words) k ≡ 0
