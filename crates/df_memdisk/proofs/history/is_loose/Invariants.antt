-- The events after the index are writes elsewhere.
use Rattle.{std.proofs.Common.{◌≡◌, take}, df_base.specs.Log.{loose_of}, df_memdisk.specs.History.{events_of}}
use Rattle.df_memdisk.proofs.history.is_loose.Given as goal

abbrev pub invariant-loop-index : goal.invariant-loop-index
invariant-loop-index l = loose_of (events_of (take l.index l.past)) l.sector ≡ loose_of (events_of l.past) l.sector
