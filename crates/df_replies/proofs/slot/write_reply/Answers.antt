-- A sound reply stands in its own slot.
use Rattle.{std.proofs.Common.{◌≡◌, ap, refl, subst, sym, ◌∙◌}, df_layout.specs.declared.places.Place.{Place}}
use Rattle.{df_format.specs.{declared.header.Header.{Header}, Valid.{IsUnit}}, df_units.specs.{Format.{format_of}, Meaning.{message_of}}}
use Rattle.{df_theory.specs.{Device.{AreSteps}, Units.{ReplyPlace, ReplyUnit}}, df_places.specs.Units.{unit_events, unit_steps}}
use Rattle.df_replies.{specs.Slots.{reply_place}, proofs.Own.{in_own_slot}}
use Rattle.df_replies.proofs.slot.write_reply.Goals as goal

pub write_unit-requires-clause-own : goal.write_unit-requires-clause-own
write_unit-requires-clause-own g c =
    subst (λ (p : Place). IsUnit c.args.layout.now c.args.unit.now.unit.header.cluster p c.args.unit.now.unit)
    (sym (c.reply_place.ensures ∙ ap (λ (h : Header). reply_place h.slot) c.header.ensures.header))
    (in_own_slot c.args.layout.now c.args.unit.now c.header.ensures.sound c.requires.layout)

pub returns-clause-steps : goal.returns-clause-steps
returns-clause-steps g c = let here : c.reply_place.result ≡ reply_place c.args.unit.now.unit.header.slot =
    c.reply_place.ensures ∙ ap (λ (h : Header). reply_place h.slot) c.header.ensures.header in let steps = c.write_unit.ensures.steps
    (ReplyPlace c.args.unit.now.unit.header.slot) (ReplyUnit (message_of c.args.unit.now.unit)) (sym here) refl in
    subst (λ (p : Place). AreSteps (format_of c.args.layout.now c.args.unit.now.unit.header.cluster) (unit_events c.args.layout.now
    p c.args.unit.now) (unit_steps (ReplyPlace c.args.unit.now.unit.header.slot) (ReplyUnit (message_of c.args.unit.now.unit)))) here steps

pub returns-clause-own : goal.returns-clause-own
returns-clause-own g c = in_own_slot c.args.layout.now c.args.unit.now c.header.ensures.sound c.requires.layout
