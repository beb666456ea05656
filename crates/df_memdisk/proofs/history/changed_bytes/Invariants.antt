-- The changes after the index are of other sectors.
use Rattle.{std.proofs.Common.{◌≡◌, take}, df_memdisk.specs.{History.{changes_of}, Newest.{last_change}}}
use Rattle.df_memdisk.proofs.history.changed_bytes.Given as goal

abbrev pub invariant-loop-index : goal.invariant-loop-index
invariant-loop-index l = last_change (changes_of (take l.index l.changes)) l.sector ≡ last_change (changes_of l.changes) l.sector
