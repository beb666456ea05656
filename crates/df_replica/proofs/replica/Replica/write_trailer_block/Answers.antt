-- The block that is written is the trailer's next one, and the state after it makes sense.
use Rattle.{std.proofs.Common.{◌≡◌, ℕ, ◌+◌, ◌∙◌, List, Some, refl, sym, ap, subst}, df_base.specs.Log.{Event}}
use Rattle.{df_disk.specs.Adds.{AddsPart, after_all}, df_theory.specs.Device.{AreSteps}, df_checkpoint.specs.Writing.{unit_in}}
use Rattle.{df_grid.specs.{Grid.{GridState}, Table.{next_written}, Writes.{block_steps, made_events}}, df_model.specs.Blocks.{Blocks}}
use Rattle.df_units.specs.{Format.{format_of}, Meaning.{number_of}}
use Rattle.df_opening.specs.Below.{FitsGrid, IsRunningCheckpoint, IsState, Parts, RunningCheckpoint, State, running_state, state_in}
use Rattle.df_replica.{specs.Stepping.{MayAdvance, OfRunning, advanced, block_events, trailer_unit}, proofs.{BeginState.{with_course}, StepState.{grid_is, of_running, running_on, taken_level, taken_runs}}}
use Rattle.df_replica.proofs.replica.Replica.write_trailer_block.Goals as goal

pub invariant_of-self : goal.invariant_of-self
invariant_of-self g c = let i = c.self.inside.parts in let s : State = state_in i in
    let may = subst MayAdvance (sym c.self.view_is) c.requires in let r = c.in-Some.running in let grid = c.write_piece-done.new.grid in
    let sum = number_of (unit_in i.grid r.capture r.written).header.checksum in let written = c.in-Ok.ensures.written in
    let runs : IsRunningCheckpoint i.file i.content i.head i.grid.blocks (running_state r) =
    taken_runs i.file i.content i.head i.grid.blocks i.running r (sym c.in-Some.ensures.value) c.self.invariant.state.course in
    let on = running_on i.file i.content i.head i.grid.blocks (running_state r) sum runs may.some in
    let course = subst (λ (b : Blocks). IsRunningCheckpoint
    i.file i.content i.head b (record (running_state r) { written = r.written + 1 })) (ap (λ (x : GridState). x.blocks) (sym written)) on in
    record {
      state = subst (λ (n : ℕ).
          IsState (record s { blocks = grid.blocks; running = Some (record (running_state r) { written = r.written + 1 }); boot = n }))
          (ap (λ (x : GridState). x.boot) (sym written))
          (with_course s grid.blocks (Some (record (running_state r) { written = r.written + 1 })) c.self.invariant.state
          course (taken_level i.head i.head_checksum i.running r (sym c.in-Some.ensures.value) c.self.invariant.state.captured));
      rooms = c.self.invariant.rooms;
      grid = subst (λ (x : GridState). FitsGrid i.file x.layout x.cluster) (sym written) c.self.invariant.grid;
    }

-- what is told of the events of the block that is made is told of those of the trailer's next one
events_as : (P : List Event → Type 0) (i : Parts) (v : State) (r : RunningCheckpoint)
    → i.running ≡ Some r → state_in i ≡ v → i.grid.layout ≡ i.file.layout → i.grid.cluster ≡ i.file.cluster
    → P (made_events i.grid.layout (unit_in i.grid r.capture r.written)) → OfRunning v.running (λ q. P (block_events v q))
events_as P i v r at view fits named is = of_running (λ x q. P (block_events x q)) (state_in i) v i.running r at
    refl view (subst (λ (x : GridState). P (made_events x.layout (unit_in x r.capture r.written))) (grid_is i.file i.grid fits named) is)

-- and so are its steps
steps_as : (i : Parts) (v : State) (r : RunningCheckpoint)
    → i.running ≡ Some r → state_in i ≡ v → i.grid.layout ≡ i.file.layout → i.grid.cluster ≡ i.file.cluster
    → AreSteps (format_of i.grid.layout i.grid.cluster)
    (made_events i.grid.layout (unit_in i.grid r.capture r.written)) (block_steps (unit_in i.grid r.capture r.written))
    → OfRunning v.running (λ q. AreSteps (format_of v.file.layout v.file.cluster) (block_events v q) (block_steps (trailer_unit v q)))
steps_as i v r at view fits named are =
    of_running (λ x q. AreSteps (format_of x.file.layout x.file.cluster) (block_events x q) (block_steps (trailer_unit x q)))
    (state_in i) v i.running r at refl view
    (subst (λ (x : GridState). AreSteps (format_of x.layout x.cluster) (made_events x.layout (unit_in x r.capture r.written))
    (block_steps (unit_in x r.capture r.written))) (grid_is i.file i.grid fits named) are)

pub returns-in-Ok-clause-events : goal.returns-in-Ok-clause-events
returns-in-Ok-clause-events g c =
    events_as (λ (es : List Event). g.D.Disk.told c.write_piece-done.new.disk ≡ after_all es (g.D.Disk.told c.args.disk.now))
    c.self.inside.parts c.args.self.now c.in-Some.running (sym c.in-Some.ensures.value) c.self.view_is
    c.self.invariant.grid_fits c.self.invariant.grid_named c.in-Ok.ensures.events

pub returns-in-Err-clause-events : goal.returns-in-Err-clause-events
returns-in-Err-clause-events g c =
    events_as (λ (es : List Event). AddsPart es (g.D.Disk.told c.args.disk.now) (g.D.Disk.told c.write_piece-done.new.disk))
    c.self.inside.parts c.args.self.now c.in-Some.running (sym c.in-Some.ensures.value) c.self.view_is
    c.self.invariant.grid_fits c.self.invariant.grid_named c.in-Err.ensures.events

pub returns-in-Ok-clause-steps : goal.returns-in-Ok-clause-steps
returns-in-Ok-clause-steps g c = steps_as c.self.inside.parts c.args.self.now c.in-Some.running
    (sym c.in-Some.ensures.value) c.self.view_is c.self.invariant.grid_fits c.self.invariant.grid_named c.write_piece-done.ensures.steps

pub returns-in-Err-clause-steps : goal.returns-in-Err-clause-steps
returns-in-Err-clause-steps g c = steps_as c.self.inside.parts c.args.self.now c.in-Some.running
    (sym c.in-Some.ensures.value) c.self.view_is c.self.invariant.grid_fits c.self.invariant.grid_named c.write_piece-done.ensures.steps

pub returns-in-Ok-clause-written : goal.returns-in-Ok-clause-written
returns-in-Ok-clause-written g c = let i = c.self.inside.parts in let s : State = state_in i in let r = c.in-Some.running in
    let to : GridState
    → State = λ x. record s { blocks = x.blocks; running = Some (record (running_state r) { written = r.written + 1 }); boot = x.boot } in
    let sum = ap (λ (x : GridState).
    record (to i.grid) { blocks = next_written i.grid.blocks (number_of (unit_in x r.capture r.written).header.checksum) })
    (grid_is i.file i.grid c.self.invariant.grid_fits c.self.invariant.grid_named) in
    of_running (λ x q.
    to c.write_piece-done.new.grid ≡ advanced x q) s c.args.self.now i.running r (sym c.in-Some.ensures.value) refl c.self.view_is
    (ap to c.in-Ok.ensures.written ∙ sum)
