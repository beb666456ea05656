-- A turn puts one class more.
use Rattle.{std.proofs.Common.{arith, codes}, df_inspect.proofs.Classes.{put_more}}
use Rattle.df_inspect.proofs.opening.no_quorum_line.Goals as goal

pub loop-class-preserved : goal.loop-class-preserved
loop-class-preserved c = record {
  put = put_more (codes "refused NoQuorum") _ _ _ c.args.classes.now c.loop-class.class-index _ (omega arith) c.loop-class.invariant.put
      c.put-in-loop-class.ensures.put c.put_class.ensures.put;
  room = omega (arith, c.put_class.ensures.room, c.loop-class.invariant.room, c.put-in-loop-class.ensures.room);
}
