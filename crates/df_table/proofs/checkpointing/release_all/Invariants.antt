-- The blocks up to an address are released.
use Rattle.{std.proofs.Common.{◌≡◌, Option, true}, df_disk.specs.Told.{Told}}
use Rattle.df_table.{specs.Ready.{IsReadyReplica}, proofs.Released.{IsReleasing}}
use Rattle.df_table.proofs.checkpointing.release_all.Given as goal

abbrev pub invariant-loop-before : goal.invariant-loop-before
invariant-loop-before l = record {
  releasing : (told : Option Told) (ready : IsReadyReplica l.fn.layout l.fn.replica)
      → IsReleasing ready.work.live l.fn.layout.blocks l.before l.fn.replica l.replica told;
  live : l.replica.live ≡ true;
}
