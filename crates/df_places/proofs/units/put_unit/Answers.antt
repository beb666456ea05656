-- The sectors of a sound room lie in the place that is the unit's own.
use Rattle.{std.proofs.Common.{ap}, df_layout.specs.declared.{layout.Layout.{Layout}, places.Span.{Span}}}
use Rattle.{df_format.proofs.Laws.{valid_belongs}, df_buffers.specs.Sounds.{AreWholeSectors}}
use Rattle.df_places.proofs.{Rooms.{are_sectors}, Steps.{put_is_steps, write_brings}}
use Rattle.df_places.proofs.units.put_unit.Goals as goal

pub sectors_of-requires : goal.sectors_of-requires
sectors_of-requires g c =
    (valid_belongs c.args.layout.now c.args.unit.now.unit.header.cluster c.args.place c.args.unit.now.unit c.requires.own).has

pub write-requires : goal.write-requires
write-requires g c =
    let whole : AreWholeSectors g.K.RoomKind.ZONE c.args.layout.now c.sectors.result.now = rw c.requires.layout at c.sectors.ensures.whole in
    are_sectors c.args.layout.now c.args.place g.K.RoomKind.ZONE c.sectors_of.result.first _ (valid_belongs
    c.args.layout.now c.args.unit.now.unit.header.cluster c.args.place c.args.unit.now.unit c.requires.own).has c.requires.zone
    (ap (λ (s : Span). s.first) c.sectors_of.ensures) whole.some whole.whole whole.fits

pub returns-clause-steps : goal.returns-clause-steps
returns-clause-steps g c = put_is_steps g.K.UnitKind.KIND g.K.RoomKind.ZONE c.args.layout.now c.args.place c.args.unit.now
    _ g.met.K.UnitKind.stands c.requires.layout c.requires.zone c.requires.own c.sectors.ensures.value c.sectors.ensures.brings

pub returns-clause-brings : goal.returns-clause-brings
returns-clause-brings g c = write_brings g.K.RoomKind.ZONE c.args.layout.now
    c.args.place c.args.unit.now _ c.requires.layout c.requires.zone c.requires.own c.sectors.ensures.value c.sectors.ensures.brings
