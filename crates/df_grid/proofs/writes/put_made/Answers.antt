-- What was made stands in its own place.
use Rattle.{std.proofs.Common.{◌≡◌, sym, ap, subst, ◌∙◌}, df_places.specs.Shelves.{HoldsMade, IsUnitMade}}
use Rattle.df_layout.specs.{declared.places.Place.{Place}, declared.places.Zone.TheVariants.{Grid as InGrid}}
use Rattle.df_format.specs.{declared.header.Header.{Header}, declared.kind.Kind.TheVariants.{Trailer}, Own.{place_in}, Valid.{IsUnit}}
use Rattle.df_grid.proofs.Writing.{made_put, own_block}
use Rattle.df_grid.proofs.writes.put_made.Goals as goal

pub put_unit-requires-clause-layout : goal.put_unit-requires-clause-layout
put_unit-requires-clause-layout g c = let is : IsUnitMade c.args.shelf.now.layout c.args.header c.args.piece.now c.unit-unit.result.now =
    subst (HoldsMade c.args.shelf.now.layout c.args.header c.args.piece.now) c.unit-unit.ensures c.make.ensures.made in
    is.layout_is ∙ c.requires.shelf

pub put_unit-requires-clause-own : goal.put_unit-requires-clause-own
put_unit-requires-clause-own g c = let u = c.unit-unit.result.now in
    let is : IsUnitMade c.args.shelf.now.layout c.args.header c.args.piece.now u =
    subst (HoldsMade c.args.shelf.now.layout c.args.header c.args.piece.now) c.unit-unit.ensures c.make.ensures.made in
    let here : c.grid_place.result ≡ place_in InGrid u.unit.header.op =
    c.grid_place.ensures ∙ ap (λ (h : Header). place_in InGrid h.op) c.header-header.ensures.header in
    subst (λ (p : Place). IsUnit c.args.layout.now u.unit.header.cluster p u.unit)
    (sym here) (own_block c.args.layout.now Trailer u c.header-header.ensures.sound (is.layout_is ∙ c.requires.shelf))

pub returns-in-Ok-clause-steps : goal.returns-in-Ok-clause-steps
returns-in-Ok-clause-steps g c = let u = c.unit-unit.result.now in
    let is : IsUnitMade c.args.shelf.now.layout c.args.header c.args.piece.now u =
    subst (HoldsMade c.args.shelf.now.layout c.args.header c.args.piece.now) c.unit-unit.ensures c.make.ensures.made in
    made_put c.args.layout.now c.grid_place.result u c.args.header c.args.piece.now is.unit
    is.sectors (c.grid_place.ensures ∙ ap (λ (h : Header). place_in InGrid h.op) c.header-header.ensures.header) c.put_unit.ensures.steps

pub returns-in-Err-clause-steps : goal.returns-in-Err-clause-steps
returns-in-Err-clause-steps g c = let u = c.unit-unit.result.now in
    let is : IsUnitMade c.args.shelf.now.layout c.args.header c.args.piece.now u =
    subst (HoldsMade c.args.shelf.now.layout c.args.header c.args.piece.now) c.unit-unit.ensures c.make.ensures.made in
    made_put c.args.layout.now c.grid_place.result u c.args.header c.args.piece.now is.unit
    is.sectors (c.grid_place.ensures ∙ ap (λ (h : Header). place_in InGrid h.op) c.header-header.ensures.header) c.put_unit.ensures.steps
