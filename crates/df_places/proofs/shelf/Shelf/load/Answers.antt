-- What the room holds is what the disk shows.
use Rattle.{std.proofs.Common.{◌≡◌, sym, ap, subst, ◌∙◌, List, ℕ}, df_base.specs.Fields.{AreBytes}, df_disk.specs.Told.{Shows}}
use Rattle.{df_layout.specs.{declared.layout.Layout.{Layout}, Spans.{span_of}}, df_format.specs.Message.{Message}}
use Rattle.df_buffers.specs.{Found.{FindsKind, class_for}, Rooms.{FillsRoom}}
use Rattle.df_places.{specs.Shelves.{Shelved}, proofs.Shelves.{found_read, lacks_read, unwritten}}
use Rattle.df_places.proofs.shelf.Shelf.load.Goals as goal

pub returns-in-Ok-prove-clause-read : goal.returns-in-Ok-prove-clause-read
returns-in-Ok-prove-clause-read g c = let i = c.args.identity.now in let bytes = c.read_place.new.room.bytes in
    let layout : c.self.inside.layout ≡ i.layout = ap (λ (v : Shelved). v.layout) c.self.view_is ∙ sym c.requires.layout in
    found_read g.K.UnitKind.KIND g.K.RoomKind.ZONE
    i bytes g.met.K.UnitKind.stands c.requires.zone (rw layout at c.in-Ok.ensures.fills) (g.D.Disk.told c.args.disk.now) c.in-Ok-prove.unit
    (subst AreBytes c.bytes_mut.ensures.value c.are_bytes.ensures) (rw layout at c.in-Ok.ensures.bytes)
    (rw (unwritten c.bytes_mut.result.now bytes c.bytes_mut.ensures.value) at c.in-Ok-prove.ensures.found)

pub returns-in-Err-prove-clause-read : goal.returns-in-Err-prove-clause-read
returns-in-Err-prove-clause-read g c = let i = c.args.identity.now in let bytes = c.read_place.new.room.bytes in
    let layout : c.self.inside.layout ≡ i.layout = ap (λ (v : Shelved). v.layout) c.self.view_is ∙ sym c.requires.layout in
    lacks_read g.K.UnitKind.KIND g.K.RoomKind.ZONE i bytes g.met.K.UnitKind.stands
    c.requires.zone (rw layout at c.in-Ok.ensures.fills) (g.D.Disk.told c.args.disk.now) c.in-Err-prove.class c.take-2.new.self
    (subst AreBytes c.bytes_mut.ensures.value c.are_bytes.ensures) (rw layout at c.in-Ok.ensures.bytes)
    (rw (unwritten c.bytes_mut.result.now bytes c.bytes_mut.ensures.value) at c.in-Err-prove.ensures.unwanted)
    (c.in-Err-prove.ensures.class ∙ ap (class_for i) (unwritten c.bytes_mut.result.now bytes c.bytes_mut.ensures.value))
