-- The slots so far show no later prepare of the client.
use Rattle.{std.proofs.Common.{ℕ, ◌<◌}, df_mirror.proofs.HeadSessions.{NoneLater}}
use Rattle.df_mirror.proofs.replies.has_later.Given as goal

abbrev pub invariant-loop-slot : goal.invariant-loop-slot
invariant-loop-slot l = (k : ℕ) → k < l.slot → NoneLater l.base l.slots l.client k
