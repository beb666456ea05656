-- Each release is the machine's, and the state after it makes sense.
use Rattle.std.{proofs.Common.{◌≡◌, ℕ, false, true, Some, sym, ap, subst, ◌∙◌}, specs.Prelude.{Err}}
use Rattle.{df_grid.specs.Grid.{GridState, with_blocks}, df_opening.specs.Below.{AreWhole, Parts, State, state_in}}
use Rattle.df_model.specs.{Blocks.{Blocks, block_released, sum_at, without_entry}, Commands.{Release, ToRelease}, Work.{is_known}}
use Rattle.df_replica.{specs.{Answering.{Serves}, Blocks.{released}}, proofs.{BlockStates.{live_state, not_live_stays}, ReleaseAnswers.{none_is, refused_is, refused_release, released_serves}}}
use Rattle.df_replica.proofs.replica.Replica.release.Goals as goal

-- another grid of the file, with other live blocks
let_go : (p : Parts) (grid : GridState) (a : ℕ)
    → AreWhole p → grid ≡ with_blocks p.grid (block_released p.grid.blocks a) → AreWhole (record p { grid = grid })
let_go p grid a old is = subst (λ (x : GridState). AreWhole (record p { grid = x })) (sym is)
    (record { state = live_state (state_in p) (without_entry a p.grid.blocks.live) old.state; rooms = old.rooms; grid = record { grid_fits = old.grid_fits; grid_named = old.grid_named } })

pub invariant_of-self : goal.invariant_of-self
invariant_of-self c = let_go c.self.inside.parts c.release.new.self c.args.address c.self.invariant c.release.ensures.released

pub invariant_of-self-2 : goal.invariant_of-self-2
invariant_of-self-2 c = let_go c.self.inside.parts c.release.new.self c.args.address c.self.invariant c.release.ensures.released

pub returns-then-not-release-clause-exact : goal.returns-then-not-release-clause-exact
returns-then-not-release-clause-exact c = let s = c.self.inside.parts in
    let dead : is_known (sum_at c.args.address s.grid.blocks.live) ≡ false = sym c.release.ensures.answer ∙ c.if-not-release.true in
    let stays : record (state_in s) { blocks = c.release.new.self.blocks; boot = c.release.new.self.boot } ≡ c.args.self.now =
    ap (λ (x : GridState). record (state_in s) { blocks = x.blocks; boot = x.boot }) c.release.ensures.released
    ∙ ap (λ (b : Blocks). record (state_in s) { blocks = b }) (not_live_stays s.grid.blocks c.args.address dead) ∙ c.self.view_is in
    (refused_is c.args.self.now c.args.address (ap (λ (x : State). is_known (sum_at c.args.address x.blocks.live)) (sym c.self.view_is) ∙ dead), stays)

pub returns-then-not-release-clause-call : goal.returns-then-not-release-clause-call
returns-then-not-release-clause-call c = let exact = returns-then-not-release-clause-exact c in let v = c.args.self.now in
    let s = c.self.inside.parts in
    λ told. subst (λ (x : State). Serves (Release c.args.address) v x told told (Some (ToRelease (Err (record {})))))
    (sym exact.1) (refused_release v c.args.address c.requires.live (record {}) exact.0 told)

pub returns-clause-call : goal.returns-clause-call
returns-clause-call c = let s = c.self.inside.parts in
    let alive : is_known (sum_at c.args.address s.grid.blocks.live) ≡ true = sym c.release.ensures.answer ∙ c.if-not-release.false in
    let lets : record (state_in s) { blocks = c.release.new.self.blocks; boot = c.release.new.self.boot }
    ≡ released c.args.self.now c.args.address =
    ap (λ (x : GridState). record (state_in s) { blocks = x.blocks; boot = x.boot }) c.release.ensures.released
    ∙ ap (λ (x : State). released x c.args.address) c.self.view_is in
    λ told. released_serves c.args.self.now c.args.address c.requires.live (none_is c.args.self.now
    c.args.address (ap (λ (x : State). is_known (sum_at c.args.address x.blocks.live)) (sym c.self.view_is) ∙ alive)) _ lets told
