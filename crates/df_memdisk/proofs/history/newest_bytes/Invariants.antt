-- The events after the index gave the sector nothing.
use Rattle.{std.proofs.Common.{◌≡◌, take}, df_memdisk.specs.{History.{events_of}, Newest.{newest_of}}}
use Rattle.df_memdisk.proofs.history.newest_bytes.Given as goal

abbrev pub invariant-loop-index : goal.invariant-loop-index
invariant-loop-index l = newest_of (events_of (take l.index l.past)) l.sector ≡ newest_of (events_of l.past) l.sector
