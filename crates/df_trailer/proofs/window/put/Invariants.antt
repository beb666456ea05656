use Rattle.std.{proofs.Common.{◌≡◌, ℕ, ◌+◌, ◌<◌, length}, specs.Prelude.{slice_index}}
use Rattle.df_trailer.proofs.window.put.Given as goal

abbrev pub invariant-loop-i : goal.invariant-loop-i
invariant-loop-i l = (length l.room ≡ length l.fn.room)
    × ((k : ℕ) → l.fn.from + k < l.fn.at → slice_index l.room k ≡ slice_index l.fn.room k)
    × ((k j : ℕ) → j < l.i → l.fn.from + k ≡ l.fn.at + j → k < length l.fn.room → slice_index l.room k ≡ slice_index l.item j)
