-- The blocks that were read are the last ones of the chain, and shown.
use Rattle.{std.proofs.Common.{◌≡◌, ◌-◌, ◌<◌, ◌≤◌}, arrayvec.specs.ArrayVec.{array_vec_len}, df_disk.specs.Told.{Told}}
use Rattle.{df_format.specs.declared.kind.Kind.TheVariants.{Trailer}, df_theory.specs.Trailer.{IsCount}}
use Rattle.df_mirror.{specs.{Outside.{around, counts}, Walks.{HasWalkedChain, IsInsideGrid}}, proofs.Turns.{Walked}}
use Rattle.df_mirror.proofs.trailer.mend_chain.Given as goal

abbrev pub invariant-loop-done : goal.invariant-loop-done
invariant-loop-done g l = record {
  walked : Walked l.fn.base Trailer (around (g.A.Disk.told l.fn.first) (g.B.Disk.told l.fn.second) (g.W.Sink.written l.fn.sink))
      (around (g.A.Disk.told l.first) (g.B.Disk.told l.second) (g.W.Sink.written l.sink))
      (counts (g.A.Disk.faults l.fn.first) (g.B.Disk.faults l.fn.second) (g.W.Sink.faults l.fn.sink))
      (counts (g.A.Disk.faults l.first) (g.B.Disk.faults l.second) (g.W.Sink.faults l.sink))
      l.shelf.layout l.mended l.done (λ (x : Unit {0}) (t : Told). Unit {0}) (λ x image. HasWalkedChain l.fn.base image l.count l.walk);
  few : l.count ≤ 70;
  size : array_vec_len l.walk.read ≡ l.done;
  inside : l.done < l.count → IsInsideGrid l.fn.base l.walk.at.address;
  counted : IsCount (l.fn.base.file.layout.block_size - 256) l.fn.base.content.trailer_size l.count;
}
