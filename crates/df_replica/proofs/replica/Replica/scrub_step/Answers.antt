-- The scrubber's step over the grid is the machine's.
use Rattle.{std.{proofs.Common.{◌≡◌, true, sym, ap, subst}, specs.Prelude.{Ok}}, df_grid.specs.Grid.{GridState}}
use Rattle.df_opening.specs.Below.{IsMachines, State, state_in}
use Rattle.df_replica.{specs.{Answering.{ServesScrub}, Scrubbing.{with_scrub}}, proofs.{ScrubCalls.{scrub_serves, scrub_stopped}, StepState.{grid_is}}}
use Rattle.df_replica.proofs.replica.Replica.scrub_step.Goals as goal

pub returns-in-Ok-clause-call : goal.returns-in-Ok-clause-call
returns-in-Ok-clause-call g c = let told = g.D.Disk.told c.args.disk.now in let i = c.self.inside.parts in let s : State = state_in i in
    let answer = c.in-Ok.scrubbed in let scrub = c.step.new.self in
    let live : s.live ≡ true = subst (λ (x : State). x.live ≡ true) (sym c.self.view_is) c.requires.live in
    let machines = subst (λ (x : GridState). IsMachines x i.scrub.scrubber scrub told answer)
    (grid_is i.file i.grid c.self.invariant.grid_fits c.self.invariant.grid_named) c.in-Ok.ensures.machine in
    let after : with_scrub s scrub ≡ record (with_scrub s scrub) { blocks = c.step.new.grid.blocks; boot = c.step.new.grid.boot } =
    ap (λ (x : GridState). record (with_scrub s scrub) { blocks = x.blocks; boot = x.boot }) (sym c.step.ensures.grid) in
    subst (λ (x : State). ServesScrub
    x (record (with_scrub s scrub) { blocks = c.step.new.grid.blocks; boot = c.step.new.grid.boot }) told (Ok answer)) c.self.view_is
    (subst (λ (x : State). ServesScrub s x told (Ok answer)) after (scrub_serves s live told answer scrub machines))

pub returns-in-Err-clause-call : goal.returns-in-Err-clause-call
returns-in-Err-clause-call g c = scrub_stopped c.args.self.now
    c.requires.live (g.D.Disk.told c.args.disk.now) c.stop.new.self c.in-Err.failed (ap (λ (s : State). s.live) c.stop.ensures)
