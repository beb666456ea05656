-- The prepares from an op up to the head are shown as they are named, and the next one is named.
use Rattle.{std.proofs.Common.{◌-◌, ◌≤◌}, df_disk.specs.Told.{Told}, df_format.specs.declared.kind.Kind.TheVariants.{Prepare}}
use Rattle.df_units.specs.Meaning.{number_of}
use Rattle.df_mirror.{specs.{Outside.{around, counts}, Walks.{NamesPreparesFrom, ShowsGrid, superblock_units}}, proofs.Turns.{Walked}}
use Rattle.df_mirror.proofs.mending.mend_prepares.Given as goal

abbrev pub invariant-loop-op : goal.invariant-loop-op
invariant-loop-op g l = record {
  low : l.fields.op ≤ l.op;
  high : l.op ≤ l.fields.head;
  walked : Walked l.fn.base Prepare (around (g.A.Disk.told l.fn.first) (g.B.Disk.told l.fn.second) (g.W.Sink.written l.fn.sink))
      (around (g.A.Disk.told l.first) (g.B.Disk.told l.second) (g.W.Sink.written l.sink))
      (counts (g.A.Disk.faults l.fn.first) (g.B.Disk.faults l.fn.second) (g.W.Sink.faults l.fn.sink))
      (counts (g.A.Disk.faults l.first) (g.B.Disk.faults l.second) (g.W.Sink.faults l.sink))
      l.shelf.layout l.mended (l.fields.head - l.op) (λ (x : Unit {0}) (t : Told).
      ShowsGrid l.fn.base (superblock_units l.fn.base t.shown)) (λ x image. NamesPreparesFrom l.fn.base image l.op (number_of l.named));
}

abbrev pub decreases-loop-op : goal.decreases-loop-op
decreases-loop-op g l = l.op - l.fields.op
