-- The referenced blocks up to an address are shown.
use Rattle.{std.proofs.Common.{List}, df_disk.specs.Told.{Told}, df_format.specs.declared.kind.Kind.TheVariants.{Block as AsBlock}}
use Rattle.df_sessions.specs.declared.session.Session.{Session}
use Rattle.df_mirror.{specs.{Outside.{around, counts}, Walks.{HasTrailerText, HasWaiting, ShowsBlocks, superblock_units}}, proofs.Turns.{Walked}}
use Rattle.df_mirror.proofs.mending.mend_blocks.Given as goal

abbrev pub invariant-loop-before : goal.invariant-loop-before
invariant-loop-before g l =
    Walked l.fn.base AsBlock (around (g.A.Disk.told l.fn.first) (g.B.Disk.told l.fn.second) (g.W.Sink.written l.fn.sink))
    (around (g.A.Disk.told l.first) (g.B.Disk.told l.second) (g.W.Sink.written l.sink))
    (counts (g.A.Disk.faults l.fn.first) (g.B.Disk.faults l.fn.second) (g.W.Sink.faults l.fn.sink))
    (counts (g.A.Disk.faults l.first) (g.B.Disk.faults l.second) (g.W.Sink.faults l.sink))
    l.shelf.layout l.written l.before (λ (ss : List Session) (t : Told). HasTrailerText l.fn.base (superblock_units l.fn.base t.shown)
    l.fn.grid ss × HasWaiting l.fn.base ss) (λ ss image. ShowsBlocks l.fn.base image l.fn.grid ss l.before)
