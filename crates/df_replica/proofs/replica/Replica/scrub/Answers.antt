-- What the scrubber lists over the grid is what the replica lists, and the tour is the machine's.
use Rattle.{std.proofs.Common.{◌≡◌, ◌∙◌, ◌++◌, List, refl, sym, ap, subst}, df_layout.specs.declared.damage.Finding.{Finding}}
use Rattle.{df_grid.specs.Grid.{GridState}, df_model.specs.{After.{newest}, Work.{Tour, first_tour}}}
use Rattle.df_opening.specs.Below.{ListsFailing, State, grid_with, state_in}
use Rattle.df_replica.{specs.Scrubbing.{toured}, proofs.{ScrubTours.{tour_serves}, StepState.{grid_is}}}
use Rattle.df_replica.proofs.replica.Replica.scrub.Goals as goal

pub returns-in-Ok : goal.returns-in-Ok
returns-in-Ok g c = let told = g.D.Disk.told c.args.disk.now in let i = c.self.inside.parts in let s : State = state_in i in
    let v = c.args.self.now in let list = c.as_slice.result.now in let now = c.scrub-done.new in
    let items : list ≡ now.report.items = c.as_slice.ensures.value in
    let after : record s { blocks = now.grid.blocks; boot = now.grid.boot; tour = now.self.tour; findings = now.self.findings } ≡ toured v list =
    ap (λ (x : GridState).
    record s { blocks = x.blocks; boot = x.boot; tour = now.self.tour; findings = now.self.findings }) c.scrub-done.ensures.grid
    ∙ ap (λ (x : Tour). record s { tour = x; findings = now.self.findings }) c.in-Ok.ensures.tour
    ∙ ap (λ (x : List Finding). record s { tour = first_tour; findings = x }) c.scrub-done.ensures.findings
    ∙ ap (λ (x : List Finding). record s { tour = first_tour; findings = newest (s.findings ++ x) }) (sym items)
    ∙ ap (λ (x : State). toured x list) c.self.view_is in
    let lists = subst (λ (x : List Finding). ListsFailing i.grid told x) (sym items) c.in-Ok.ensures.failing in
    let exact = subst (λ (x : State). ListsFailing (grid_with x.file x.boot x.blocks) told list) c.self.view_is (subst (λ (x : GridState).
    ListsFailing x told list) (grid_is i.file i.grid c.self.invariant.grid_fits c.self.invariant.grid_named) lists) in (
      (refl, (λ _. tt), after),
      record { after = tt; exact = exact; call = tour_serves v told list; same = c.scrub-done.ensures.same; cause = record { later = c.in-Ok.ensures.cause.later; failed = tt; same = c.in-Ok.ensures.cause.same } },
    )
