-- The fields are those of the next superblock, which obey the rules.
use Rattle.{std.proofs.Common.{◌≡◌, ◌≤◌, ◌∙◌, ℕ, None, refl, sym, ap, subst, arith}, df_base.specs.Fields.{spelled}}
use Rattle.df_format.specs.{SuperRules.{fault_of}, declared.superblock.SuperFields.{SuperFields}}
use Rattle.{df_grid.specs.Writes.{first_address, first_sum}, df_layout.specs.declared.layout.Layout.{Layout}}
use Rattle.df_opening.specs.Below.{State, recorded, running_state, state_in}
use Rattle.df_units.{specs.Meaning.{number_of}, proofs.Laws.{whole_check}}
use Rattle.df_replica.{specs.Stepping.{MayFinishCheckpoint, captured_fields, next_fields}, proofs.{FinishState.{last_is, no_fault}, StepState.{of_running, taken_level, taken_runs}}}
use Rattle.df_replica.proofs.replica.Replica.next_fields.Goals as goal

pub returns-clause-fields : goal.returns-clause-fields
returns-clause-fields c = let i = c.self.inside.parts in let r = c.in-Some.running in
    let last = last_is i.grid.blocks c.in-Some-trailer.last.address c.in-Some-trailer.last.checksum (subst MayFinishCheckpoint
    (sym c.self.view_is) c.requires).done (c.in-Some-trailer.ensures {u = tt}).pair c.captured_fields-fields.ensures.check in
    of_running (λ x q. c.recorded.result ≡ next_fields x q) (state_in i) c.args.self.now i.running r c.in-Some.is refl c.self.view_is
    (c.recorded.ensures ∙ ap (recorded (state_in i)) (c.captured_fields-fields.ensures.fields
    ∙ (λ k. captured_fields (c.fields.ensures.value k) (running_state r) (sym last.0 k) (last.2 k))))

pub returns-clause-rules : goal.returns-clause-rules
returns-clause-rules c = let i = c.self.inside.parts in let s : State = state_in i in let r = c.in-Some.running in
    let last = last_is i.grid.blocks c.in-Some-trailer.last.address c.in-Some-trailer.last.checksum (subst MayFinishCheckpoint
    (sym c.self.view_is) c.requires).done (c.in-Some-trailer.ensures {u = tt}).pair c.captured_fields-fields.ensures.check in
    let inside = (c.in-Some-trailer.ensures {u = tt}).inside in
    let runs = taken_runs i.file i.content i.head i.grid.blocks i.running r c.in-Some.is c.self.invariant.state.course in
    let some : 1 ≤ first_address i.grid.blocks.written = omega (arith, inside.0, last.0) in
    let within : first_address i.grid.blocks.written ≤ i.file.layout.blocks =
    omega (arith, inside.1, last.0, ap (λ (l : Layout). l.blocks) c.self.invariant.grid_fits) in
    let level = taken_level i.head i.head_checksum i.running r c.in-Some.is c.self.invariant.state.captured in
    subst (λ (f : SuperFields). fault_of f ≡ None) (sym (c.recorded.ensures ∙ ap (recorded s) (c.captured_fields-fields.ensures.fields
    ∙ (λ k. captured_fields (c.fields.ensures.value k) (running_state r) (sym last.0 k) (last.2 k)))))
    (no_fault s (running_state r) c.self.invariant.state c.len-count.ensures.table c.fields.ensures.usable.rules runs level some within)

pub returns-clause-sum : goal.returns-clause-sum
returns-clause-sum c = let check = c.captured_fields-fields.ensures.check in
    let last = last_is c.self.inside.parts.grid.blocks c.in-Some-trailer.last.address c.in-Some-trailer.last.checksum
    (subst MayFinishCheckpoint (sym c.self.view_is) c.requires).done (c.in-Some-trailer.ensures {u = tt}).pair check in
    subst (λ (s : State). number_of (spelled 16 (first_sum s.blocks.written)) ≡ first_sum s.blocks.written) c.self.view_is
    (ap (λ (n : ℕ). number_of (spelled 16 n)) last.1 ∙ ap number_of (whole_check c.in-Some-trailer.last.checksum check) ∙ sym last.1)
