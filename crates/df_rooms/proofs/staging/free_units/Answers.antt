use Rattle.{std.proofs.Common.{◌∙◌, ap}, df_buffers.specs.{Rooms.{Room}, Sounds.{Holding}}, df_rooms.proofs.Stagings.{moved_all, moved_fit}}
use Rattle.df_rooms.proofs.staging.free_units.Goals as goal

pub loop-free-preserved : goal.loop-free-preserved
loop-free-preserved c = record {
  all = moved_all c.loop-free.free.items c.push_reserved.new.self.items c.loop-free.units.items c.take_last.new.self.items
      c.take_last.result c.loosen.result _ c.push_reserved.ensures.items c.take_last.ensures.items c.loop-free.invariant.all;
  fit = λ layout free units. let was = c.loop-free.invariant.fit layout free units in moved_fit (λ (h : Holding). h.layout)
      layout _ _ _ _ _ _ c.push_reserved.ensures.items c.take_last.ensures.items (ap (λ (r : Room). r.layout) c.loosen.ensures) was.0 was.1;
  capacity = (c.push_reserved.ensures.capacity ∙ c.loop-free.invariant.capacity.0, c.take_last.ensures.capacity ∙ c.loop-free.invariant.capacity.1);
}
