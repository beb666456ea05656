-- The places that were passed have the checksums of their replies.
use Rattle.{std.{proofs.Common.{◌≡◌, ◌<◌, ℕ, [], get_or, length}, specs.List.{slice_get}}, df_rooms.specs.Recorded.{stored_check}}
use Rattle.df_rooms.proofs.recorded.stored_checks.Given as goal

abbrev pub invariant-loop-place : goal.invariant-loop-place
invariant-loop-place l =
    (length l.checks ≡ 64) × ((k : ℕ) → k < l.place → get_or l.checks k [] ≡ stored_check (slice_get l.sessions.sessions k))
