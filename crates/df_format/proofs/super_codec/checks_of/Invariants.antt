-- The checksums before this place are those of the bytes.
use Rattle.std.proofs.Common.{◌≡◌, ℕ, ◌<◌, ◌+◌, ◌*◌, [], length, take, drop, get_or}
use Rattle.df_format.proofs.super_codec.checks_of.Given as goal

abbrev pub invariant-loop-place : goal.invariant-loop-place
invariant-loop-place l = (length l.checks ≡ 64) × ((k : ℕ) → k < l.place → get_or l.checks k [] ≡ take 16 (drop (192 + 16 * k) l.bytes))
