-- What the header's sector and the slot show is what the disk shows.
use Rattle.{std.proofs.Common.{◌≡◌, ◌%◌, ℕ, refl, subst}, df_format.specs.Shown.{class_of, header_or_class, unit_in}}
use Rattle.{df_layout.specs.declared.{layout.Layout.{Layout}, places.Place.{Place}}, df_buffers.specs.Rooms.{header_bytes}}
use Rattle.{df_places.specs.Units.{IsSeen}, df_journal.proofs.Scans.{slot_seen}}
use Rattle.df_journal.proofs.reads.scan_slot.Goals as goal

pub returns-clause-seen : goal.returns-clause-seen
returns-clause-seen g c = let told = g.D.Disk.told c.args.disk.now in let layout = c.args.layout.now in
    let prepare = c.in_ok-prepare.prepare in let there = subst (λ (l : Layout). IsSeen l c.args.cluster told c.place_in-2.result prepare)
    c.requires.shelf c.in_ok-prepare.ensures.seen in let bytes = c.args.sector.now.bytes in
    let at_place : Place → ℕ → Type 0 = λ p n. c.header_at-header.result ≡ header_or_class
    (unit_in layout c.args.cluster p (header_bytes n bytes)) (class_of layout c.args.cluster p (header_bytes n bytes)) in
    let header = subst (λ (p : Place). at_place p (c.args.slot % 16)) c.place_in.ensures
    (subst (at_place c.place_in.result) c.from.ensures (c.header_at-header.ensures.any refl)) in
    slot_seen layout c.args.cluster c.args.slot told c.args.sector.now.bytes
    (record { header = c.header_at-header.result; prepare = prepare }) c.requires.sector.size c.requires.sector.shows header
    (subst (λ (p : Place). IsSeen layout c.args.cluster told p prepare) c.place_in-2.ensures there)
