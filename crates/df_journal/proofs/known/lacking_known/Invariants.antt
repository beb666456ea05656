-- From the op on all are shown as they are named.
use Rattle.{std.proofs.Common.{◌≤◌}, df_format.specs.Spelling.{IsCheck}, df_theory.specs.{Shape.{Shape}, Units.{Content, Units}}}
use Rattle.df_journal.{specs.{Known.{NamesFrom}, Shows.{TellsRings}}, proofs.Named.{IsRead}}
use Rattle.df_journal.proofs.known.lacking_known.Given as goal

abbrev pub invariant-loop-op : goal.invariant-loop-op
invariant-loop-op l = record {
  from : l.found.start.op ≤ l.found.start.head → l.found.start.op ≤ l.op;
  named : l.op ≤ l.found.start.head;
  checksum : IsCheck l.wanted;
  read : (sh : Shape) (image : Units) (c : Content)
      → TellsRings l.layout image l.found → NamesFrom sh c l.layout l.found.start l.checksum → IsRead sh image c l.op l.wanted;
}

abbrev pub decreases-loop-op : goal.decreases-loop-op
decreases-loop-op l = l.op
