-- What is counted is the plan.
use Rattle.{std.proofs.Common.{subst, ◌≡◌, ◌≤◌, ◌-◌, ◌∙◌, ℕ, length, map, ap, arith}, df_layout.specs.declared.layout.Layout.{Layout}}
use Rattle.{df_model.specs.Blocks.{sum_at}, df_theory.specs.Trailer.{IsCount}, df_units.specs.Meaning.{layout_of}}
use Rattle.df_trailer.specs.{Spelling.{is_referenced, text_size}, Text.{ones}, Writing.{captured_blocks}}
use Rattle.{df_opening.specs.Below.{State, state_in}, df_replica.{specs.Beginning.{IsPlan}, proofs.BeginPlan.{planned}}}
use Rattle.df_replica.proofs.replica.Replica.plan.Goals as goal

pub returns : goal.returns
returns c = let s : State = state_in c.self.inside.parts in let live = c.live_blocks-blocks.result in
    let same = c.self.invariant.grid_fits in
    let live_is : live ≡ ones (map is_referenced (captured_blocks (λ a. sum_at a s.blocks.live) s.file.layout.blocks)) =
    c.live_blocks-blocks.ensures.captured
    ∙ ap (λ (l : Layout). ones (map is_referenced (captured_blocks (λ a. sum_at a s.blocks.live) l.blocks))) same in
    let few : live ≤ s.file.layout.blocks = omega (arith, c.live_blocks-blocks.ensures.most, ap (λ (l : Layout). l.blocks) same) in
    let table = c.len-sessions.ensures.table in let size = c.trailer_size.ensures.value
    ∙ ap (λ (n : ℕ). text_size (layout_of s.file.layout) (length c.args.root.now) n live) c.len-sessions.ensures.value in
    let count = subst (λ (n : ℕ). IsCount (s.file.layout.block_size - 256) (text_size (layout_of s.file.layout)
    (length c.args.root.now) n live) c.blocks_needed.result) c.len-sessions.ensures.value c.blocks_needed.ensures.count in
    subst (λ (x : State). IsPlan x c.args.root.now (record { size = c.trailer_size.result; blocks = c.blocks_needed.result })) c.self.view_is
    (planned s c.args.root.now live c.trailer_size.result live_is size
    c.blocks_needed.result c.requires (omega (arith, table.within, c.self.invariant.state.places)) few count c.blocks_needed.ensures.most)
