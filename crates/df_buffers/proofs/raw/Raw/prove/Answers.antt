-- What is found in the bytes that are lent is found in the room.
use Rattle.{std.proofs.Common.{◌≡◌, List, ℕ, refl, rules, sym, subst, ◌∙◌, ap}, df_layout.specs.declared.places.Zone.{Zone}}
use Rattle.df_buffers.{specs.{Rooms.{Room, StandsIn}, Found.{FindsKind, IsValidUnit, class_for}, Sounds.{unit_with}}, proofs.Finds.{found_class, found_in, found_kind, kind_there, sound_from, there_in}}
use Rattle.df_buffers.proofs.raw.Raw.prove.Given.{Over}
use Rattle.df_buffers.proofs.raw.Raw.prove.Goals as goal

pub returns-in-Ok-clause-class : goal.returns-in-Ok-clause-class
returns-in-Ok-clause-class g c = let f = c.in-Ok.ensures.found in
    let here = c.deref.ensures.value ∙ ap (λ (r : Room). r.bytes) c.self.view_is in
    found_class c.args.identity.now c.deref.result.now f.0 f.2 ∙ ap (λ (bytes : List ℕ). class_for c.args.identity.now bytes) here

stands : (g : Over) (c : goal.After-kind-1 g) → StandsIn g.K.UnitKind.KIND c.args.identity.now.place.zone
stands g c = subst (λ (z : Zone). StandsIn g.K.UnitKind.KIND z) (sym c.requires.zone) g.met.K.UnitKind.stands

found : (g : Over) (c : goal.After-kind-1 g)
    → let bytes = c.self.inside.bytes.items in FindsKind g.K.UnitKind.KIND c.args.identity.now bytes (unit_with c.in-Ok.header bytes)
found g c = let f = c.in-Ok.ensures.found in let of : c.in-Ok.header.kind ≡ c.KIND.result = search rules in
    found_in _ _ c.args.identity.now _ _ c.in-Ok.header refl c.deref.ensures.value
    (found_kind g.K.UnitKind.KIND c.args.identity.now c.deref.result.now f.0 c.in-Ok.header (stands g c) f.1 (of ∙ c.KIND.ensures) f.2)

there : (g : Over) (c : goal.After-kind-1 g) → IsValidUnit c.args.identity.now (unit_with c.in-Ok.header c.self.inside.bytes.items)
there g c = let f = c.in-Ok.ensures.found in there_in c.args.identity.now _ _ c.in-Ok.header c.deref.ensures.value
    (kind_there c.args.identity.now c.deref.result.now f.0 c.in-Ok.header g.K.UnitKind.KIND (stands g c) f.1 f.2 f.3)

pub invariant_of-result : goal.invariant_of-result
invariant_of-result g c = let same = c.requires.layout ∙ ap (λ (r : Room). r.layout) (sym c.self.view_is) in
    sound_from _ _ _ c.args.identity.now _ c.in-Ok.header c.self.invariant same c.requires.zone (found g c) (there g c)

pub returns-in-Ok-2-clause-found : goal.returns-in-Ok-2-clause-found
returns-in-Ok-2-clause-found g c = let unit = unit_with c.in-Ok.header c.self.inside.bytes.items in subst (λ (bytes : List ℕ).
    FindsKind g.K.UnitKind.KIND c.args.identity.now bytes unit) (ap (λ (r : Room). r.bytes) c.self.view_is) (found g c)

pub returns-in-Ok-2-clause-there : goal.returns-in-Ok-2-clause-there
returns-in-Ok-2-clause-there g c = there g c
