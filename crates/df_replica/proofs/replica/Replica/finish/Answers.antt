-- The state in which the checkpoint is the durable one makes sense.
use Rattle.{std.proofs.Common.{◌≡◌, Option, None, Some, sym, subst}, df_grid.specs.Grid.{GridState}}
use Rattle.df_format.specs.{SuperRules.{IsUsable}, declared.superblock.SuperFields.{SuperFields}}
use Rattle.df_opening.specs.Below.{FitsGrid, IsState, RunningCheckpoint, RunningState, State, running_of, running_state, state_in}
use Rattle.df_replica.{specs.Stepping.{OfRunning, finished, next_fields}, proofs.{FinishState.{finished_sense}, StepState.{taken_level, taken_runs}}}
use Rattle.df_replica.proofs.replica.Replica.finish.Goals as goal

pub invariant_of-self : goal.invariant_of-self
invariant_of-self c = let i = c.self.inside.parts in let s : State = state_in i in let old = c.self.invariant in
    let running = c.in-Some.running in let r : RunningState = running_state running in
    let at : i.running ≡ Some running = sym c.in-Some.ensures.value in
    let runs = taken_runs i.file i.content i.head i.grid.blocks i.running running at old.state.course in
    let level = taken_level i.head i.head_checksum i.running running at old.state.captured in
    let content : c.args.content ≡ next_fields s r =
    subst (λ (q : Option RunningCheckpoint). OfRunning (running_of q) (λ x. c.args.content ≡ next_fields s x)) at
    (subst (λ (x : State). OfRunning x.running (λ q. c.args.content ≡ next_fields x q)) (sym c.self.view_is) c.requires.content) in
    let sense = finished_sense s r old.state runs level (subst IsUsable content c.fields-fields.ensures.usable) in record {
      state =
          subst (λ (o : Option RunningCheckpoint). IsState (record s { fields = c.args.content; root = r.root; blocks = c.finish.new.self.blocks; boot = c.finish.new.self.boot; running = running_of o })) (sym c.take.ensures.after)
          (subst (λ (x : GridState). IsState
          (record s { fields = c.args.content; root = r.root; blocks = x.blocks; boot = x.boot; running = None })) (sym c.finish.ensures)
          (subst (λ (f : SuperFields). IsState (record (finished s r) { fields = f })) (sym content) sense));
      rooms = old.rooms;
      grid = subst (λ (x : GridState). FitsGrid i.file x.layout x.cluster) (sym c.finish.ensures) old.grid;
    }
