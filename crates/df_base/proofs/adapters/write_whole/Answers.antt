-- One more part of the piece.
use Rattle.{std.proofs.Common.{rules}, df_base.proofs.Pieces.{part_more}}
use Rattle.df_base.proofs.adapters.write_whole.Goals as goal

pub loop-done-preserved : goal.loop-done-preserved
loop-done-preserved g c = record {
  within = search rules;
  front = part_more _ _ _ c.args.piece.now c.loop-done.done c.in_ok-count.count c.loop-done.invariant.front c.in_ok-count.ensures.ok;
}
