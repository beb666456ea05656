-- A sound prepare stands in its own slot.
use Rattle.{std.proofs.Common.{◌≡◌, ap, refl, subst, sym, ◌∙◌, take}, df_layout.specs.declared.places.Place.{Place}}
use Rattle.df_format.specs.{declared.header.Header.{Header}, Brings.{Brings}, Message.{sectors_end}, Valid.{IsUnit}}
use Rattle.df_theory.specs.{Device.{AreSteps}, Units.{PreparePlace, PrepareUnit}}
use Rattle.df_places.specs.{Below.{format_of, message_of}, Units.{put_events, put_steps}}
use Rattle.df_prepares.{specs.Slots.{slot_place}, proofs.Own.{in_place}}
use Rattle.df_prepares.proofs.slot.put_prepare.Goals as goal

pub put_unit-requires-clause-own : goal.put_unit-requires-clause-own
put_unit-requires-clause-own g c =
    subst (λ (p : Place). IsUnit c.args.layout.now c.args.unit.now.unit.header.cluster p c.args.unit.now.unit)
    (sym (c.slot_place.ensures ∙ ap (λ (h : Header). slot_place h.slot) c.header.ensures.header))
    (in_place c.args.layout.now c.args.unit.now c.header.ensures.sound c.requires.layout)

pub returns-clause-steps : goal.returns-clause-steps
returns-clause-steps g c = let here : c.slot_place.result ≡ slot_place c.args.unit.now.unit.header.slot =
    c.slot_place.ensures ∙ ap (λ (h : Header). slot_place h.slot) c.header.ensures.header in let steps = c.put_unit.ensures.steps
    (PreparePlace c.args.unit.now.unit.header.slot) (PrepareUnit (message_of c.args.unit.now.unit)) (sym here) refl in
    subst (λ (p : Place). AreSteps (format_of c.args.layout.now c.args.unit.now.unit.header.cluster) (put_events c.args.layout.now p
    c.args.unit.now) (put_steps (PreparePlace c.args.unit.now.unit.header.slot) (PrepareUnit (message_of c.args.unit.now.unit)))) here steps

pub returns-clause-own : goal.returns-clause-own
returns-clause-own g c = in_place c.args.layout.now c.args.unit.now c.header.ensures.sound c.requires.layout

pub returns-clause-brings : goal.returns-clause-brings
returns-clause-brings g c =
    subst (λ (p : Place). Brings c.args.layout.now
    c.args.unit.now.unit.header.cluster p c.args.unit.now.unit (take (sectors_end c.args.unit.now.unit.header.size) c.args.unit.now.bytes))
    (c.slot_place.ensures ∙ ap (λ (h : Header). slot_place h.slot) c.header.ensures.header) c.put_unit.ensures.brings
