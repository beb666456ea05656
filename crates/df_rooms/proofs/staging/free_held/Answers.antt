use Rattle.{std.proofs.Common.{◌∙◌}, df_rooms.{specs.declared.staging.Held.{Held}, proofs.Stagings.{moved_all, moved_fit}}}
use Rattle.df_rooms.proofs.staging.free_held.Goals as goal

pub loop-free-preserved : goal.loop-free-preserved
loop-free-preserved c = record {
  all = moved_all c.loop-free.free.items c.push_reserved.new.self.items c.loop-free.held.items c.take_last.new.self.items
      c.take_last.result c.loosen.result _ c.push_reserved.ensures.items c.take_last.ensures.items c.loop-free.invariant.all;
  fit = λ layout free held. let was = c.loop-free.invariant.fit layout free held in moved_fit (λ (h : Held).
      h.room.layout) layout _ _ _ _ _ _ c.push_reserved.ensures.items c.take_last.ensures.items c.loosen.ensures was.0 was.1;
  capacity = (c.push_reserved.ensures.capacity ∙ c.loop-free.invariant.capacity.0, c.take_last.ensures.capacity ∙ c.loop-free.invariant.capacity.1);
}
