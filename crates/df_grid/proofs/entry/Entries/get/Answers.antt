-- A checksum and its marks are the entry.
use Rattle.{std.proofs.{Common.{◌-◌, length, refl, arith}, lemmas.Option.{slice_get_read}}, df_grid.proofs.Zips.{get_entries, has_place}}
use Rattle.df_grid.proofs.entry.Entries.get.Goals as goal

pub index-checksum-requires : goal.index-checksum-requires
index-checksum-requires c = let s = c.self.inside in
    let at = has_place s.checks.items s.marks.items c.args.self.now c.args.address c.self.invariant c.self.view_is c.requires in
    omega (arith, s.checks.ok.0, at)

pub index-mark-requires : goal.index-mark-requires
index-mark-requires c = let s = c.self.inside in
    let at = has_place s.checks.items s.marks.items c.args.self.now c.args.address c.self.invariant c.self.view_is c.requires in
    omega (arith, s.marks.ok.0, at)

pub returns : goal.returns
returns c = let s = c.self.inside in
    let inside = has_place s.checks.items s.marks.items c.args.self.now c.args.address c.self.invariant c.self.view_is c.requires in
    let check = slice_get_read s.checks.items (length s.checks.items) (c.args.address - 1)
    c.index-checksum.result.now refl inside.check c.index-checksum.ensures in
    let mark = slice_get_read s.marks.items (length s.checks.items) (c.args.address - 1)
    c.index-mark.result.now c.self.invariant inside.check c.index-mark.ensures in rw (← c.self.view_is)
    (get_entries s.checks.items s.marks.items (c.args.address - 1) c.index-checksum.result.now c.index-mark.result.now check mark)
