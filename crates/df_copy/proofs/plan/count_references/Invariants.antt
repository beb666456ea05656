-- The references before the address are counted.
use Rattle.{std.proofs.Common.{◌≡◌, ◌+◌, ◌-◌, ◌≤◌, length}, df_opening.specs.Below.{memory}}
use Rattle.df_copy.specs.Tests.{references, references_from}
use Rattle.df_copy.proofs.plan.count_references.Given as goal

abbrev pub invariant-loop-before : goal.invariant-loop-before
invariant-loop-before l = record {
  counted : l.count + length (references_from (memory l.replica) (l.before + 1) ((memory l.replica).layout.blocks - l.before))
      ≡ length (references (memory l.replica));
  few : l.count ≤ l.before;
}
