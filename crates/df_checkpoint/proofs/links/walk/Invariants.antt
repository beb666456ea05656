-- The links that were read are the last ones of the chain, and the next one is asked for where they end.
use Rattle.{std.proofs.Common.{◌≡◌, ◌<◌}, arrayvec.specs.ArrayVec.{array_vec_len}, df_theory.specs.Shape.{Shape}}
use Rattle.{df_units.specs.Meaning.{layout_of}, df_grid.specs.Grid.{HasAddress}}
use Rattle.df_checkpoint.specs.Chain.{AreDistinctLinks, HasWalked, OfTold, content_in}
use Rattle.df_checkpoint.proofs.links.walk.Given as goal

abbrev pub invariant-loop-done : goal.invariant-loop-done
invariant-loop-done g l = record {
  grid : l.grid ≡ l.fn.grid;
  told : g.D.Disk.told l.disk ≡ g.D.Disk.told l.fn.disk;
  faults : g.D.Disk.faults l.disk ≡ g.D.Disk.faults l.fn.disk;
  size : array_vec_len l.blocks ≡ l.done;
  apart : AreDistinctLinks l.fn.grid l.blocks.items;
  inside : l.done < l.fn.count → HasAddress l.fn.grid l.at.address;
  walked : (sh : Shape) → sh.layout ≡ layout_of l.fn.grid.layout → OfTold l.fn.grid (g.D.Disk.told l.fn.disk) (λ shown.
      HasWalked sh shown (content_in l.fn.content) l.fn.count l.blocks.items l.at × (l.done ≡ l.fn.count → l.at.address ≡ 0));
}
