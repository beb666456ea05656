-- The known replies at the places so far are shown.
use Rattle.{df_disk.specs.Told.{Told}, df_format.specs.declared.kind.Kind.TheVariants.{Reply}}
use Rattle.df_mirror.{specs.{Outside.{around, counts}, Walks.{HasHead, ShowsKnownReplies, superblock_units}}, proofs.Turns.{Walked}}
use Rattle.df_mirror.proofs.replies.mend_replies.Given as goal

abbrev pub invariant-loop-place : goal.invariant-loop-place
invariant-loop-place g l =
    Walked l.fn.base Reply (around (g.A.Disk.told l.fn.first) (g.B.Disk.told l.fn.second) (g.W.Sink.written l.fn.sink))
    (around (g.A.Disk.told l.first) (g.B.Disk.told l.second) (g.W.Sink.written l.sink))
    (counts (g.A.Disk.faults l.fn.first) (g.B.Disk.faults l.fn.second) (g.W.Sink.faults l.fn.sink))
    (counts (g.A.Disk.faults l.first) (g.B.Disk.faults l.second) (g.W.Sink.faults l.sink))
    l.shelf.layout l.mended l.place (λ (x : Unit {0}) (t : Told). HasHead l.fn.base (superblock_units l.fn.base t.shown)
    l.fn.slots l.fn.sessions) (λ x image. ShowsKnownReplies l.fn.base image l.fn.slots l.fn.sessions l.place)
