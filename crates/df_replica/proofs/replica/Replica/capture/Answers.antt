-- The state with the checkpoint that was begun makes sense.
use Rattle.{std.proofs.Common.{◌≡◌, ◌∙◌, ◌+◌, ℕ, List, take, Some, refl, sym, ap, subst}, df_layout.specs.declared.layout.Layout.{Layout}}
use Rattle.{df_format.specs.declared.superblock.SuperFields.{SuperFields}, df_sessions.specs.declared.session.Session.{Session}}
use Rattle.{df_model.specs.Blocks.{Blocks, blocks_captured, free_in}, df_units.specs.Meaning.{layout_of}, df_grid.specs.Grid.{GridState}}
use Rattle.df_opening.specs.Below.{FitsGrid, IsRunningCheckpoint, IsState, State, state_in}
use Rattle.df_replica.{specs.Beginning.{MayBeginCheckpoint, captured, with_checkpoint_begun}, proofs.BeginState.{is_running, with_course}}
use Rattle.df_replica.proofs.replica.Replica.capture.Goals as goal

pub invariant_of-self : goal.invariant_of-self
invariant_of-self c = let s : State = state_in c.self.inside.parts in let root = c.args.root.now in let plan = c.args.plan in
    let old = c.self.invariant.state in let may = subst (λ (x : State). MayBeginCheckpoint x root plan) (sym c.self.view_is) c.requires in
    let blocks : (with_checkpoint_begun s root).blocks ≡ c.capture.new.self.blocks =
    ap (λ (n : ℕ). blocks_captured s.blocks (take n (free_in (layout_of s.file.layout) s.blocks))) (sym may.planned.blocks)
    ∙ ap (λ (l : Layout). blocks_captured s.blocks (take plan.blocks (free_in (layout_of l) s.blocks))) (sym c.self.invariant.grid_fits)
    ∙ ap (λ (g : GridState). g.blocks) (sym c.capture.ensures) in let one = is_running s root plan old c.len-count.ensures.table may in
    let two = subst (λ (n : ℕ). IsRunningCheckpoint
    s.file s.fields s.head (with_checkpoint_begun s root).blocks (record (captured s root) { size = n })) (sym may.planned.size) one in
    let three = subst (λ (n : ℕ). IsRunningCheckpoint s.file s.fields s.head
    (with_checkpoint_begun s root).blocks (record (captured s root) { size = plan.size; blocks = n })) (sym may.planned.blocks) two in
    let four = subst (λ (r : List ℕ). IsRunningCheckpoint s.file s.fields s.head (with_checkpoint_begun s root).blocks
    (record (captured s root) { root = r; size = plan.size; blocks = plan.blocks })) (sym c.of-capture.ensures.root) three in
    let five = subst (λ (ss : List Session). IsRunningCheckpoint s.file s.fields s.head (with_checkpoint_begun s root).blocks
    (record (captured s root) { root = c.of-capture.result.root.items; sessions = ss; size = plan.size; blocks = plan.blocks }))
    (sym (c.of-capture.ensures.sessions ∙ c.as_slice.ensures)) four in
    let six = subst (λ (n : ℕ). IsRunningCheckpoint s.file s.fields s.head (with_checkpoint_begun s root).blocks (record (captured s root) { root = c.of-capture.result.root.items; sessions = c.of-capture.result.sessions.items; sequence = n; size = plan.size; blocks = plan.blocks })) (sym (c.of-capture.ensures.sequence ∙ ap (λ (f : SuperFields). f.sequence + 1) c.fields.ensures.value)) five in
    let course = subst (λ (b : Blocks). IsRunningCheckpoint s.file s.fields s.head b (record (captured s root) { root = c.of-capture.result.root.items; sessions = c.of-capture.result.sessions.items; sequence = c.of-capture.result.sequence; size = plan.size; blocks = plan.blocks })) blocks six in
    record {
      state = subst (λ (n : ℕ). IsState (record s { blocks = c.capture.new.self.blocks; running = Some (record (captured s root) { root = c.of-capture.result.root.items; sessions = c.of-capture.result.sessions.items; sequence = c.of-capture.result.sequence; size = plan.size; blocks = plan.blocks }); boot = n }))
          (ap (λ (g : GridState). g.boot) (sym c.capture.ensures))
          (with_course s c.capture.new.self.blocks (Some (record (captured s root) { root = c.of-capture.result.root.items; sessions = c.of-capture.result.sessions.items; sequence = c.of-capture.result.sequence; size = plan.size; blocks = plan.blocks })) old course (λ same. refl));
      rooms = c.self.invariant.rooms;
      grid = subst (λ (g : GridState). FitsGrid s.file g.layout g.cluster) (sym c.capture.ensures) c.self.invariant.grid;
    }
