use Rattle.std.proofs.Common.{length, sym, ◌∙◌, ap}
use Rattle.df_buffers.{specs.Fillings.{Filling}, proofs.{Bodies.{filled_has}, Finds.{is_no_ring}}}
use Rattle.df_buffers.proofs.filled.Filled.len.Goals as goal

pub returns : goal.returns
returns g c = sym (filled_has g.K.RoomKind.ZONE _ _ _ _ (is_no_ring _ _ g.met.K.UnitKind.stands) c.self.invariant).size
    ∙ ap (λ (f : Filling). length f.body) c.self.view_is
