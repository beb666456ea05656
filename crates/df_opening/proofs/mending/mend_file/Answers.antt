-- What is planned is mended and raised: its device calls are steps, so what they leave at each moment and at their end is the machine's,
-- whether all of them were made or a part.
use Rattle.{std.{proofs.Common.{◌≡◌, ◌∙◌, ◌<◌, ◌^◌, List, length, ap, subst, sym}, specs.Prelude.{Ok, Err}}, df_base.specs.Log.{Event}}
use Rattle.{df_format.specs.{SuperRules.{IsUsable}, declared.superblock.SuperFields.{SuperFields}}, df_theory.specs.Device.{AreSteps}}
use Rattle.{df_superblock.proofs.Laws.{update_is_steps}, df_damage.specs.Below.{IsState, State, boot_fields}}
use Rattle.df_opening.{specs.{Below.{update_events}, Keeping.{format}, Mending.{AddsUpdating, mending_events, mending_steps, raised_state}, Raising.{RaisesEach, opening_events}, Survey.{Survey, survey_in}}, proofs.{RaiseAnew.{raises_anew}, RaiseSteps.{opening_is_steps, raises_over}, Refused.{updating_error, updating_fault, updating_ok, updating_then}}}
use Rattle.df_opening.proofs.mending.mend_file.Goals as goal

-- the device calls of the mending
abbrev mending : Survey → List Event
mending s = mending_events s.state.file.layout s.state.headers s.mends s.state.fields s.chosen.members

-- ---- the calls are steps, and what they leave

raises_each : (s : Survey) → length s.chosen.members ≡ 4 → IsState s.state → s.state.fields.boot < 2 ^ 62 → IsUsable (boot_fields s.state)
    → AreSteps (format s.state.file) (mending s) (mending_steps s.state.file.layout s.state.headers s.mends s.state.fields s.chosen.members)
    → RaisesEach s
raises_each s four is unspent usable are = let steps = opening_is_steps s are (update_is_steps (boot_fields s.state) usable) in record {
  steps = steps;
  over = λ base grade view plan on stands. raises_over grade view s base four is unspent plan on stands steps;
  anew = λ base grade view plan whole found distinct shown stands.
      raises_anew grade view s base four (sym is.version ∙ is.second.rules.version) is unspent plan whole found distinct shown stands steps;
}

pub returns-in-Err-clause-leaves : goal.returns-in-Err-clause-leaves
returns-in-Err-clause-leaves g c =
    raises_each (survey_in c.args.surveyed) c.mend_parts.ensures.size c.requires.found.whole.state c.requires.found.unspent
    (subst IsUsable c.next_superblock-content.ensures c.fields-fields.ensures.usable) c.mend_parts.ensures.does.steps

pub returns-in-Ok-raise_parts-clause-leaves : goal.returns-in-Ok-raise_parts-clause-leaves
returns-in-Ok-raise_parts-clause-leaves g c =
    raises_each (survey_in c.args.surveyed) c.mend_parts.ensures.size c.requires.found.whole.state c.requires.found.unspent
    (subst IsUsable c.next_superblock-content.ensures c.fields-fields.ensures.usable) c.mend_parts.ensures.does.steps

pub returns-in-Err-raise_parts-clause-leaves : goal.returns-in-Err-raise_parts-clause-leaves
returns-in-Err-raise_parts-clause-leaves g c =
    raises_each (survey_in c.args.surveyed) c.mend_parts.ensures.size c.requires.found.whole.state c.requires.found.unspent
    (subst IsUsable c.next_superblock-content.ensures c.fields-fields.ensures.usable) c.mend_parts.ensures.does.steps

-- ---- which calls were made

pub returns-in-Err-clause-does : goal.returns-in-Err-clause-does
returns-in-Err-clause-does g c = let s : Survey = survey_in c.args.surveyed in
    updating_fault _ (mending s) (update_events (boot_fields s.state))
    (boot_fields s.state) (g.D.Disk.told c.args.disk.now) (g.D.Disk.told c.mend_parts.new.disk) c.in-Err.ensures.does.events

pub returns-in-Ok-raise_parts-clause-does : goal.returns-in-Ok-raise_parts-clause-does
returns-in-Ok-raise_parts-clause-does g c = let s : Survey = survey_in c.args.surveyed in let old = g.D.Disk.told c.args.disk.now in
    let mid = g.D.Disk.told c.mend_parts.new.disk in let new = g.D.Disk.told c.raise_parts.new.disk in
    let does = subst (λ (f : SuperFields).
    AddsUpdating {T = Unit {0}} (update_events f) f mid new (Ok tt)) c.next_superblock-content.ensures c.in-Ok-raise_parts.ensures.does in
    updating_ok (opening_events s) (boot_fields s.state) old new tt c.raise_parts.new.parts (updating_then {T = Unit {0}}
    (mending s) (update_events (boot_fields s.state)) (boot_fields s.state) old mid new (Ok tt) c.in-Ok.ensures.does.events does)

pub returns-in-Err-raise_parts-clause-does : goal.returns-in-Err-raise_parts-clause-does
returns-in-Err-raise_parts-clause-does g c = let s : Survey = survey_in c.args.surveyed in let old = g.D.Disk.told c.args.disk.now in
    let mid = g.D.Disk.told c.mend_parts.new.disk in let new = g.D.Disk.told c.raise_parts.new.disk in
    let error = c.in-Err-raise_parts.error in
    let does = subst (λ (f : SuperFields). AddsUpdating {T = Unit {0}} (update_events f) f mid new (Err error))
    c.next_superblock-content.ensures c.in-Err-raise_parts.ensures.does in
    updating_error (Unit {0}) _ (opening_events s) (boot_fields s.state) old new error (updating_then {T = Unit {0}}
    (mending s) (update_events (boot_fields s.state)) (boot_fields s.state) old mid new (Err error) c.in-Ok.ensures.does.events does)

-- ---- the superblock that is written is that of the state as it was found

pub raise_parts-requires-clause-content : goal.raise_parts-requires-clause-content
raise_parts-requires-clause-content g c = c.next_superblock-content.ensures ∙ ap boot_fields (sym c.mend_parts.ensures.state)

pub raise_parts-requires-clause-unspent : goal.raise_parts-requires-clause-unspent
raise_parts-requires-clause-unspent g c = subst (λ (s : State). s.fields.boot < 2 ^ 62) (sym c.mend_parts.ensures.state) c.requires.found.unspent

pub returns-in-Ok-raise_parts-clause-raised : goal.returns-in-Ok-raise_parts-clause-raised
returns-in-Ok-raise_parts-clause-raised g c =
    record { whole = c.raise_parts.ensures.whole; state = c.in-Ok-raise_parts.ensures.state ∙ ap raised_state c.mend_parts.ensures.state }
