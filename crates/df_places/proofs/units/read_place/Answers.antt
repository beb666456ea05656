-- A room has the sectors of its place.
use Rattle.{std.proofs.Common.{◌∙◌, ap}, df_layout.specs.declared.{layout.Layout.{Layout}, places.Span.{Span}}}
use Rattle.{df_buffers.specs.Rooms.{room_size}, df_places.proofs.Rooms.{room_sectors}}
use Rattle.df_places.proofs.units.read_place.Goals as goal

pub read-requires : goal.read-requires
read-requires g c = room_sectors c.args.layout.now c.args.place
    g.K.RoomKind.ZONE c.sectors_of.result.first _ c.requires.place c.requires.zone (ap (λ (s : Span). s.first) c.sectors_of.ensures)
    (c.bytes_mut.ensures.size ∙ ap (λ (l : Layout). room_size l g.K.RoomKind.ZONE) c.requires.room)
