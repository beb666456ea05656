-- The events after the index are writes.
use Rattle.{std.proofs.Common.{◌≡◌, take}, df_memdisk.specs.{History.{events_of}, Settled.{durable}}}
use Rattle.df_memdisk.proofs.counted.durable_events.Given as goal

abbrev pub invariant-loop-index : goal.invariant-loop-index
invariant-loop-index l = durable (events_of (take l.index l.past)) ≡ durable (events_of l.past)
