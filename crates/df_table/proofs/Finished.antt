-- A checkpoint of the table from its writes to its end: it may be begun, and after it the ring has room.
use Rattle.std.{proofs.Common.{◌≡◌, ℕ, ◌+◌, ◌*◌, ◌≤◌, true, List, [], ◌∷◌, ◌++◌, length, Option, Some, None, Result, Ok, Err, refl, sym, ◌∙◌, ap, arith, le-ltb, length-take}, specs.Prelude.{OnOk, replicate}}
use Rattle.{df_disk.specs.Told.{Told}, df_layout.specs.declared.layout.Layout.{Layout}, df_theory.specs.Units.{Parts}}
use Rattle.{df_sessions.specs.{Requests.{sessions_of}, Table.{Table as Sessions}}, df_rows.specs.{Commands.{Map}, Limits.{blocks_of_table}}}
use Rattle.df_model.specs.{Blocks.{captured_of, left_of, written_of}, Commands.{Advance, Begin}, Memory.{Memory, course, course_of, free_of}, Work.{Running, Work}}
use Rattle.df_session.specs.{Beginning.{captured, needed, with_checkpoint_begun}, Below.{DataFile, RunningState, State as Replica, memory, shape, spelling}, Serving.{Firm, Keeps}}
use Rattle.df_table.{specs.{declared.ending.Ending.{Ending}, Calls.{Advances, Checkpoints, Concludes, Fills, MayBegin}, Policy.{releases, writes}, Ready.{HasFree, HasRingRoom, IsEmptied, IsFinished, IsReadyReplica, WroteBlocks, places, without_live}, Turns.{EndIn, MakeAll}}, proofs.{Fine.{AreOwn, may_begin}, Free.{enough_free}, Joined.{comes_more, end_front}, Needed.{few_needed}, Stored.{makes_keep}}}

-- ---- nothing runs

pub no_course : (spell : Parts → List ℕ) (o : Option Running) → course_of spell o ≡ None → o ≡ None
no_course spell None is = refl
no_course spell (Some r) is = absurd (let none : Some (course spell r) ≡ None = is in cc)

pub no_running : (s : Replica) (o : Option RunningState) → (memory (record s { running = o })).running ≡ None → o ≡ None
no_running s None is = refl
no_running s (Some r) is = absurd (cc (is))

pub idle_runs : (s : Replica) → s.running ≡ None → (memory s).running ≡ None
idle_runs s none = ap (λ (o : Option RunningState). (memory (record s { running = o })).running) none

module _ (layout : Layout) (s : Replica) (ready : IsReadyReplica layout s) where
  none_runs : ready.work.running ≡ None
  none_runs = no_course (spelling s.file) ready.work.running (sym (ap (λ (m : Memory). m.running) ready.stands.1) ∙ ready.own.idle)

  none_captured : s.blocks.captured ≡ []
  none_captured = ap (λ (m : Memory). m.blocks.captured) ready.stands.1 ∙ ap (captured_of (shape s.file).layout) none_runs

  none_written : s.blocks.written ≡ []
  none_written = ap (λ (m : Memory). m.blocks.written) ready.stands.1 ∙ ap written_of none_runs

  none_left : s.blocks.left ≡ []
  none_left = ap (λ (m : Memory). m.blocks.left) ready.stands.1 ∙ ap left_of none_runs

  few_sessions : length (memory s).sessions ≤ 64
  few_sessions = omega (arith, ap (λ (m : Memory). length m.sessions) ready.stands.1, ready.stands.0.sessions.few, s.file.layout.clients_within)

-- ---- before the writes

pub emptied : (layout : Layout) (s t : Replica) (told : Option Told)
    → IsReadyReplica layout s → t ≡ without_live s → MakeAll (releases (memory s)) s t told told → IsEmptied layout s t
emptied layout s t told ready state made = let keeps = makes_keep (releases (memory s)) s t told told made ready.work ready.stands in
    record { ready = ready; state = state; work = keeps.0; stands = keeps.1 }

module _ (layout : Layout) (s t : Replica) (e : IsEmptied layout s t) (n : ℕ) (fits : n ≤ blocks_of_table layout) where
  pub free_emptied : HasFree layout t.blocks n
  free_emptied = record {
    captured = ap (λ (v : Replica). v.blocks.captured) e.state ∙ none_captured layout s e.ready;
    written = ap (λ (v : Replica). v.blocks.written) e.state ∙ none_written layout s e.ready;
    left = ap (λ (v : Replica). v.blocks.left) e.state ∙ none_left layout s e.ready;
    free =
        omega (arith, fits, layout.blocks_within, e.ready.space.few, e.ready.space.chain, ap (λ (v : Replica). length v.blocks.live) e.state, ap (λ (v : Replica). length v.blocks.durable) e.state, ap (λ (v : Replica). length v.blocks.chain) e.state);
  }

  -- ---- after them

  module _ (u : Replica) (wrote : WroteBlocks n t u) where
    base : u ≡ record s { blocks = record s.blocks { live = u.blocks.live } }
    base = wrote.same ∙ ap (λ (v : Replica). record v { blocks = record v.blocks { live = u.blocks.live } }) e.state

    layout_there : u.file.layout ≡ layout
    layout_there = ap (λ (v : Replica). v.file.layout) base ∙ e.ready.layout_is

    few_live : length u.blocks.live ≤ blocks_of_table layout
    few_live = omega (arith, wrote.few, fits, ap (λ (v : Replica). length v.blocks.live) e.state)

    half_needed : 2 * needed u [] ≤ blocks_of_table layout + 4
    half_needed = few_needed
        layout u layout_there (rw (sym (ap (λ (v : Replica). length (memory v).sessions) base)) at (few_sessions layout s e.ready)) few_live

    -- a checkpoint may be begun
    pub may_conclude : MayBegin u
    may_conclude = let enough : (memory u).layout.blocks
        ≤ length (free_of (memory u)) + (length u.blocks.live + (length u.blocks.durable + length u.blocks.chain)) =
        enough_free (memory u).layout u.blocks.live u.blocks.captured u.blocks.written u.blocks.left u.blocks.durable u.blocks.chain
        (ap (λ (v : Replica). v.blocks.captured) base ∙ none_captured layout s e.ready) (ap (λ (v : Replica). v.blocks.written) base
        ∙ none_written layout s e.ready) (ap (λ (v : Replica). v.blocks.left) base ∙ none_left layout s e.ready) in
        let blocks : (memory u).layout.blocks ≡ layout.blocks = ap (λ (l : Layout). l.blocks) layout_there in
        may_begin u (idle_runs u (ap (λ (v : Replica). v.running) base ∙ no_running s s.running e.ready.own.idle))
        (omega (arith, enough, blocks, half_needed, few_live, layout.blocks_within, e.ready.space.few, e.ready.space.chain, ap (λ (v : Replica). length v.blocks.durable) base, ap (λ (v : Replica). length v.blocks.chain) base))

    -- ---- after the checkpoint

    pub room_there : (v : Replica) → IsFinished (captured u []) (with_checkpoint_begun u []) v
        → v.live ≡ true → (w : Work) → Keeps Firm v w None → HasRingRoom layout s v
    room_there v done live w keeps = record {
      ready = record {
        live = live;
        work = w;
        stands = keeps;
        layout_is = ap (λ (f : DataFile). f.layout) done.file ∙ layout_there;
        own = record {
          idle = idle_runs v done.idle;
          answered = done.replies
              ∙ ap (λ (x : Replica). x.replies) base ∙ e.ready.own.answered ∙ sym (ap (λ (x : Replica). x.head) base) ∙ sym done.head;
          unstaged = done.staged ∙ ap (λ (x : Replica). x.staged) base ∙ e.ready.own.unstaged;
          alone = rw (sym (done.table ∙ ap (λ (x : Replica). x.table) base)) at e.ready.own.alone;
        };
        space = record {
          live = ap places (done.live ∙ sym done.durable);
          few = omega (arith, few_live, ap (λ (l : List (ℕ × ℕ)). length l) done.durable);
          chain = omega (arith, half_needed, done.chain, length-take (needed u []) (free_of (memory u)));
        };
      };
      room = le-ltb _ _ (omega (arith, done.op, done.head, v.file.layout.slots_within));
      head = done.head ∙ ap (λ (x : Replica). x.head) base;
      sessions = ap (λ (x : Sessions). sessions_of x.sessions) (done.table ∙ ap (λ (x : Replica). x.table) base);
    }

    -- where all was accepted
    pub room_made : {T : Type 0} (v : Replica) (old mid new : Option Told) (rows : Map) (r : Result T Ending) → MakeAll (writes layout rows) t u old mid → Concludes u v mid new r → OnOk r (IsFinished (captured u []) (with_checkpoint_begun u []) v) → OnOk r (v.live ≡ true) → OnOk r (HasRingRoom layout s v)
    room_made v old mid new rows (Ok x) made concludes done live =
        let there = makes_keep (writes layout rows) t u old mid made e.work e.stands in
        let after = makes_keep (Begin [] ∷ replicate concludes.0 Advance) u v mid new concludes.1 there.0 there.1 in
        room_there v done live after.0 after.1
    room_made v old mid new rows (Err ending) made concludes done live = tt

-- ---- the commands

pub concluded : {T : Type 0} (s u t : Replica) (old mid new : Option Told) (r : Result T Ending)
    → MakeAll (Begin [] ∷ []) s u old mid → Advances u t mid new r → Concludes s t old new r
concluded s u t old mid new r begins steps = (steps.0, comes_more (Begin [] ∷ []) (replicate steps.0 Advance) s u t old mid new begins r steps.1)

module _ (layout : Layout) (rows : Map) where
  pub filled : {T : Type 0} (s u t : Replica) (old mid new : Option Told) (r : Result T Ending)
      → MakeAll (writes layout rows) s u old mid → Concludes u t mid new r → Fills layout rows s t old new r
  filled s u t old mid new r wrote rest =
      (rest.0, comes_more (writes layout rows) (Begin [] ∷ replicate rest.0 Advance) s u t old mid new wrote r rest.1)

  pub fill_ends : (T : Type 0) (s t : Replica) (old new : Option Told) (ending : Ending)
      → EndIn (writes layout rows) s t old new ending → Fills {T = T} layout rows s t old new (Err ending)
  fill_ends T s t old new ending ends = (0, end_front (writes layout rows) (Begin [] ∷ []) s t old new ending ends)

  pub checkpointed : {T : Type 0} (s u t : Replica) (old new : Option Told) (r : Result T Ending)
      → MakeAll (releases (memory s)) s u old old → Fills layout rows u t old new r → Checkpoints layout rows s t old new r
  checkpointed s u t old new r released rest =
      (rest.0, comes_more (releases (memory s)) (writes layout rows ++ (Begin [] ∷ replicate rest.0 Advance)) s u t old old new released r rest.1)
