-- The prepares that are made, with those of the requests that are left, are the whole group.
use Rattle.{std.proofs.Common.{◌≡◌, ◌++◌, length}, df_journal.specs.Flush.{held_prepares}}
use Rattle.df_replica.specs.Flushing.{AreMadeFor, MaySeal, group_prepares}
use Rattle.df_replica.proofs.flush.seal_all.Given as goal

abbrev pub invariant-loop-before : goal.invariant-loop-before
invariant-loop-before l = record {
  layout : l.staging.layout ≡ l.group.file.layout;
  may : MaySeal l.group l.op l.before l.staging.requests;
  units : held_prepares l.staging.sealed ++ group_prepares l.group l.op l.before l.staging.requests
      ≡ group_prepares l.group l.group.first l.fn.parent l.initial.staging.requests;
  made : AreMadeFor l.group.file l.staging.sealed;
}

abbrev pub decreases-loop-before : goal.decreases-loop-before
decreases-loop-before l = length l.staging.requests
