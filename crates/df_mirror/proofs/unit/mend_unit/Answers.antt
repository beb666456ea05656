-- A unit that is shown is left alone, and one that isn't is taken.
use Rattle.{std.proofs.Common.{◌≡◌, ◌∙◌, Option, Some, None, refl, sym, length, Result, Ok, Err}, df_disk.specs.Told.{Told}}
use Rattle.{df_layout.specs.declared.damage.Class.{Class}, df_buffers.specs.Sounds.{Holding}, df_places.specs.Shelves.{HoldsFound, IsRead}}
use Rattle.df_mirror.{specs.{declared.ending.Ending.{Ending}, declared.ending.Ending.TheVariants.{First}, Mends.{AreAt}, Taking.{WritesUnit}}, proofs.{Loaded.{found_held, lacks_none, lacks_unit, shows_unit}, Joined.{none_came, none_failed}, Taken.{no_refusal, taken, told_from, written_is_shown}}}
use Rattle.df_mirror.proofs.unit.mend_unit.Goals as goal

pub returns-in-Ok-None-clause-shown : goal.returns-in-Ok-None-clause-shown
returns-in-Ok-None-clause-shown g c = λ file at check t n for old new whole. let i = c.args.identity.now in let kind = g.K.UnitKind.KIND in
    let shelf = c.load.new.self.held in let found = found_held kind i shelf (rw c.in-Ok-None.field-0-is at c.in-Ok-None.ensures.holds) in
    let read = rw c.in-Ok-None.field-0-is at c.in-Ok-None.ensures.read in let now : IsRead kind i (Some n) None (Some found.0) =
    rw (sym c.load.ensures.same ∙ new) at (rw found.1 at read) in
    (found.0, found.1, shows_unit file kind at check i for n.shown found.0.unit now.judges found.2)

pub returns-in-Ok-None-clause-mends : goal.returns-in-Ok-None-clause-mends
returns-in-Ok-None-clause-mends g c = λ file content at check t o for tell due.
    none_came file content (AreAt g.K.UnitKind.KIND at) tt t o _ _ _ (c.load.ensures.same ∙ tell.first) refl (λ ms n. 0 ≡ length ms) refl

pub returns-in-Ok-clause-shown : goal.returns-in-Ok-clause-shown
returns-in-Ok-clause-shown g c = λ file at check t n for old new whole. let i = c.args.identity.now in let takes = c.in-Ok.ensures.takes in
    let held = takes.0 in (
      held,
      takes.1,
      written_is_shown file g.K.UnitKind.KIND at check i for held takes.2.found takes.2.puts takes.2.tidy t n _ _ _ whole
          (rw (c.load.ensures.same ∙ old) at takes.2.writes) new,
    )

pub returns-in-Ok-clause-mends : goal.returns-in-Ok-clause-mends
returns-in-Ok-clause-mends g c = λ file content at check t o for tell due. let i = c.args.identity.now in let kind = g.K.UnitKind.KIND in
    let told = g.A.Disk.told c.args.first.now in
    let lacks = lacks_none kind i told c.in-Ok-Some.class c.load.new.self.held (rw c.in-Ok-Some.field-0-is at c.in-Ok-Some.ensures.read) in
    let lacking = rw tell.first at lacks in let ok : Result (Unit {0}) Ending = Ok tt in
    taken file content kind at check i for t o due (lacks_unit file kind at check i for t.shown tell.whole lacking.judges.0)
    c.in-Ok-Some.class _ _ c.take_unit.new.shelf.held ok tell.other lacking (told_from
    kind i c.in-Ok-Some.class _ _ c.take_unit.new.shelf.held ok t o (c.load.ensures.same ∙ tell.first) tell.second c.in-Ok.ensures.takes)

pub returns-in-Err-take_unit-clause-mends : goal.returns-in-Err-take_unit-clause-mends
returns-in-Err-take_unit-clause-mends g c = λ file content at check t o for tell due. let i = c.args.identity.now in
    let kind = g.K.UnitKind.KIND in let told = g.A.Disk.told c.args.first.now in
    let lacks = lacks_none kind i told c.in-Ok-Some.class c.load.new.self.held (rw c.in-Ok-Some.field-0-is at c.in-Ok-Some.ensures.read) in
    let lacking = rw tell.first at lacks in let err : Result (Unit {0}) Ending = Err c.in-Err-take_unit.ending in
    taken file content kind at check i for t o due (lacks_unit file kind at check i for t.shown tell.whole lacking.judges.0)
    c.in-Ok-Some.class _ _ c.take_unit.new.shelf.held err tell.other lacking (told_from kind i c.in-Ok-Some.class
    _ _ c.take_unit.new.shelf.held err t o (c.load.ensures.same ∙ tell.first) tell.second c.in-Err-take_unit.ensures.takes)

pub returns-in-Err-clause-mends : goal.returns-in-Err-clause-mends
returns-in-Err-clause-mends g c = λ file content at check t o for tell due.
    none_failed file content (AreAt g.K.UnitKind.KIND at) tt t o _ _ _ First (c.load.ensures.same ∙ tell.first, refl)

pub returns-in-Err-take_unit-clause-unrefused : goal.returns-in-Err-take_unit-clause-unrefused
returns-in-Err-take_unit-clause-unrefused g c = no_refusal g.K.UnitKind.KIND
    c.args.identity.now c.in-Ok-Some.class _ _ c.take_unit.new.shelf.held (Err c.in-Err-take_unit.ending) c.in-Err-take_unit.ensures.takes
