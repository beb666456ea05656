-- A sound block stands at its own address, and its write is the machine's put.
use Rattle.std.proofs.Common.{◌≡◌, ◌≤◌, sym, ap, subst, ◌∙◌, arith}
use Rattle.df_layout.specs.{declared.places.Place.{Place}, declared.places.Zone.TheVariants.{Grid as InGrid}}
use Rattle.df_format.specs.{declared.header.Header.{Header}, declared.kind.Kind.TheVariants.{Block}, Own.{place_in}, Valid.{IsUnit}}
use Rattle.df_grid.{specs.Grid.{GridState}, proofs.Writing.{own_address, own_block, own_steps}}
use Rattle.df_grid.proofs.grid.Grid.write.Goals as goal

pub put_unit-requires-clause-own : goal.put_unit-requires-clause-own
put_unit-requires-clause-own g c = let s = c.self.inside in let u = c.args.unit.now in
    let here : c.grid_place.result ≡ place_in InGrid u.unit.header.op =
    c.grid_place.ensures ∙ ap (λ (h : Header). place_in InGrid h.op) c.header-header.ensures.header in
    subst (λ (p : Place). IsUnit s.layout u.unit.header.cluster p u.unit) (sym here)
    (own_block s.layout Block u c.header-header.ensures.sound (c.requires.room ∙ ap (λ (v : GridState). v.layout) (sym c.self.view_is)))

pub returns-in_err-put_unit-clause-steps : goal.returns-in_err-put_unit-clause-steps
returns-in_err-put_unit-clause-steps g c = own_steps _ c.args.self.now c.grid_place.result c.header-header.result.now c.args.unit.now
    c.args.self.now.cluster c.self.view_is c.grid_place.ensures c.header-header.ensures.header c.requires.cluster c.put_unit.ensures.steps

pub returns-in_err-put_unit-clause-address : goal.returns-in_err-put_unit-clause-address
returns-in_err-put_unit-clause-address g c =
    own_address c.args.self.now.layout Block c.args.unit.now c.header-header.ensures.sound c.requires.room

pub put_live-requires-clause-inside : goal.put_live-requires-clause-inside
put_live-requires-clause-inside g c = let s = c.self.inside in let has = own_address s.layout
    Block c.args.unit.now c.header-header.ensures.sound (c.requires.room ∙ ap (λ (v : GridState). v.layout) (sym c.self.view_is)) in
    subst (λ (h : Header).
    (1 ≤ h.op) × (h.op ≤ s.table.size)) (sym c.header-header.ensures.header) (has.0, omega (arith, has.1, c.self.invariant.size_is))

pub returns-clause-steps : goal.returns-clause-steps
returns-clause-steps g c = own_steps _ c.args.self.now c.grid_place.result c.header-header.result.now c.args.unit.now
    c.args.self.now.cluster c.self.view_is c.grid_place.ensures c.header-header.ensures.header c.requires.cluster c.put_unit.ensures.steps

pub returns-clause-address : goal.returns-clause-address
returns-clause-address g c = own_address c.args.self.now.layout Block c.args.unit.now c.header-header.ensures.sound c.requires.room
