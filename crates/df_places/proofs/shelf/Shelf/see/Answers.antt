-- What the bytes show is what the disk does.
use Rattle.{std.proofs.Common.{◌≡◌, ap, subst, ◌∙◌, length, List, ℕ, rules}, df_buffers.proofs.Laws.{is_no_ring}}
use Rattle.df_format.specs.{Shown.{class_of, header_or_class, unit_in}, UnitLaws.{place_size}}
use Rattle.df_places.{specs.{Shelves.{Shelved}, Units.{IsSeen, IsThere}}, proofs.{Rooms.{read_seen}, Shelves.{shown_there}}}
use Rattle.df_places.proofs.shelf.Shelf.see.Goals as goal

pub returns-in-Ok-clause-seen : goal.returns-in-Ok-clause-seen
returns-in-Ok-clause-seen g c = let s = c.self.inside in let bytes = c.read_place.new.room.bytes in
    subst (λ (v : Shelved). IsSeen v.layout c.args.cluster (g.D.Disk.told c.args.disk.now) c.args.place c.decode_unit-seen.result)
    c.self.view_is
    (read_seen s.layout c.args.cluster c.args.place g.K.RoomKind.ZONE (g.D.Disk.told c.args.disk.now) bytes c.decode_unit-seen.result
    (is_no_ring g.K.UnitKind.KIND g.K.RoomKind.ZONE g.met.K.UnitKind.stands) c.requires.zone c.in-Ok.ensures.fills c.in-Ok.ensures.bytes
    (c.decode_unit-seen.ensures ∙ ap (λ (b : List ℕ). header_or_class (unit_in s.layout c.args.cluster c.args.place b)
    (class_of s.layout c.args.cluster c.args.place b)) c.bytes_mut-bytes.ensures.value))

pub returns-in-Ok-clause-there : goal.returns-in-Ok-clause-there
returns-in-Ok-clause-there g c = let s = c.self.inside in let bytes = c.bytes_mut-bytes.result.now in
    let size : length bytes ≡ place_size s.layout c.args.place.zone = search rules in
    subst (λ (v : Shelved). IsThere v.layout c.args.cluster c.args.place c.decode_unit-seen.result) c.self.view_is
    (shown_there s.layout c.args.cluster c.args.place bytes c.decode_unit-seen.result size c.are_bytes.ensures c.decode_unit-seen.ensures)
