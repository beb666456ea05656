-- The mark alone is replaced.
use Rattle.std.proofs.{Common.{◌≡◌, ◌-◌, ◌∙◌, Some, List, ap, length, sym, arith}, lemmas.Option.{slice_get_read}}
use Rattle.std.specs.Prelude.{slice_get}
use Rattle.df_grid.{specs.{declared.entry.Entry.{Entry}, Entries.{is_marked}}, proofs.Zips.{IsReplaced, has_place, replaced}}
use Rattle.df_grid.proofs.entry.Entries.finish.Goals as goal

pub index-before-requires : goal.index-before-requires
index-before-requires c = let s = c.self.inside in
    let at = has_place s.checks.items s.marks.items c.args.self.now c.args.address c.self.invariant c.self.view_is c.requires in
    omega (arith, s.marks.ok.0, at)

pub index_mut-requires : goal.index_mut-requires
index_mut-requires c = let s = c.self.inside in
    let at = has_place s.checks.items s.marks.items c.args.self.now c.args.address c.self.invariant c.self.view_is c.requires in
    omega (arith, s.marks.ok.0, at)

-- what is known of the entry that is there, of which the mark is replaced
after : (c : goal.After-self-1) (e : Entry) → slice_get c.args.self.now (c.args.address - 1) ≡ Some e
    → IsReplaced c.self.inside.checks.items c.self.inside.marks.items (c.args.address - 1) c.finished-mark.result e
after c e at = let s = c.self.inside in
    let inside = has_place s.checks.items s.marks.items c.args.self.now c.args.address c.self.invariant c.self.view_is c.requires in
    let old = slice_get_read s.marks.items
    (length s.checks.items) (c.args.address - 1) c.index-before.result.now c.self.invariant inside.check c.index-before.ensures in
    replaced s.checks.items
    s.marks.items (c.args.address - 1) c.index-before.result.now c.finished-mark.result e inside.check old c.finished-mark.ensures.entry
    (ap (λ (es : List Entry). slice_get es (c.args.address - 1)) c.self.view_is ∙ at)

pub returns-clause-entry : goal.returns-clause-entry
returns-clause-entry c = λ e at. (let is = after c e at in rw (← c.self.view_is) is.entries)

pub returns-clause-held : goal.returns-clause-held
returns-clause-held c = λ e at. (let is = after c e at in sym (c.finished-mark.ensures.held is.checksum) ∙ ap is_marked (sym is.is))
