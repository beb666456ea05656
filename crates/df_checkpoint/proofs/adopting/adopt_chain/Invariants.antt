-- The first blocks of the chain are adopted.
use Rattle.{std.proofs.Common.{◌≡◌, ◌-◌, drop, length}, df_grid.specs.Grid.{with_blocks}, df_checkpoint.specs.Adopting.{chained}}
use Rattle.df_checkpoint.proofs.adopting.adopt_chain.Given as goal

abbrev pub invariant-loop-done : goal.invariant-loop-done
invariant-loop-done l = l.grid ≡ with_blocks l.fn.grid (chained l.fn.grid.blocks (drop (length l.fn.blocks - l.done) l.fn.blocks))
