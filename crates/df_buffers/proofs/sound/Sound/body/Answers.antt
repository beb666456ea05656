use Rattle.{std.proofs.Common.{arith}, df_buffers.proofs.Finds.{ends}}
use Rattle.df_buffers.proofs.sound.Sound.body.Goals as goal

pub slice_bounds-result-end : goal.slice_bounds-result-end
slice_bounds-result-end g c = let e = ends _ _ _ g.met.K.UnitKind.stands c.self.invariant in omega (arith, e.size, c.deref.ensures.len)
