-- Steps of a checkpoint: each but the last leaves one block less to write, and after the last none runs.
use Rattle.std.{proofs.{Common.{◌≡◌, ◌≢◌, ◌<◌, ◌+◌, ℕ, true, false, List, [], ◌∷◌, length, Option, Some, None, refl, sym, ◌∙◌, ap, subst, arith}, lemmas.List.{replicate_more}}, specs.Prelude.{replicate}}
use Rattle.{df_disk.specs.Told.{Told}, df_model.specs.Commands.{Advance, Command}}
use Rattle.df_session.specs.{Below.{RunningState, State as Replica}, Stepping.{OfRunning, advanced, finished}}
use Rattle.df_table.{specs.{declared.ending.Ending.{Ending}, Calls.{CheckpointStepped, IsCheckpointing}, Ready.{IsFinished}, Turns.{EndIn, MakeAll}}, proofs.Joined.{end_more, make_more}}

-- ---- states

runs_on : (s t : Replica) (running : Option RunningState)
    → OfRunning running (λ r. (s.blocks.left ≢ []) × (t ≡ advanced s r)) → IsCheckpointing t
runs_on s t None is = absurd is
runs_on s t (Some r) is = subst (λ (u : Replica). IsCheckpointing u) (sym is.1) tt

pub still_runs : (s t : Replica) → CheckpointStepped false s t → IsCheckpointing t
still_runs s t is = runs_on s t s.running is

one_less : (s : Replica) (r : RunningState) (left : List ℕ)
    → left ≢ [] → length (advanced (record s { blocks = record s.blocks { left = left } }) r).blocks.left < length left
one_less s r [] some = absurd (some refl)
one_less s r (a ∷ more) some = omega arith

less : (s t : Replica) (running : Option RunningState)
    → OfRunning running (λ r. (s.blocks.left ≢ []) × (t ≡ advanced s r)) → length t.blocks.left < length s.blocks.left
less s t None is = absurd is
less s t (Some r) is = subst (λ (u : Replica). length u.blocks.left < length s.blocks.left) (sym is.1) (one_less s r s.blocks.left is.0)

pub fewer : (s t : Replica) → CheckpointStepped false s t → length t.blocks.left < length s.blocks.left
fewer s t is = less s t s.running is

-- ---- a checkpoint from its begin on

-- it still runs, and nothing else has changed
pub record IsUnder (r : RunningState) (s t : Replica) : Type 0 where
  pub running : OfRunning t.running (λ q. q.op ≡ r.op)
  pub same : t ≡ record s { blocks = t.blocks; running = t.running }
  pub live : t.blocks.live ≡ s.blocks.live
  pub captured : t.blocks.captured ≡ s.blocks.captured
  pub chain : length t.blocks.written + length t.blocks.left ≡ length s.blocks.written + length s.blocks.left

pub under_start : (r : RunningState) (s : Replica) → s.running ≡ Some r → IsUnder r s s
under_start r s is = record { running = rw is refl; same = refl; live = refl; captured = refl; chain = refl }

-- a block more of the trailer
one_written : (t : Replica) (q : RunningState) (left : List ℕ) → left ≢ []
    → let u = advanced (record t { blocks = record t.blocks { left = left } }) q in (u.blocks.live ≡ t.blocks.live)
    × (u.blocks.captured ≡ t.blocks.captured) × (length u.blocks.written + length u.blocks.left ≡ length t.blocks.written + length left)
one_written t q [] some = absurd (some refl)
one_written t q (a ∷ more) some = (refl, refl, omega arith)

module _ (r : RunningState) (s t u : Replica) (is : IsUnder r s t) where
  more_under : (running : Option RunningState)
      → OfRunning running (λ q. q.op ≡ r.op) → OfRunning running (λ q. (t.blocks.left ≢ []) × (u ≡ advanced t q)) → IsUnder r s u
  more_under None under step = absurd under
  more_under (Some q) under step = let one = one_written t q t.blocks.left step.0 in
      subst (λ (v : Replica). IsUnder r s v) (sym step.1) (record {
        running = under;
        same = ap (λ (v : Replica). record v { blocks = (advanced t q).blocks; running = (advanced t q).running }) is.same;
        live = one.0 ∙ is.live;
        captured = one.1 ∙ is.captured;
        chain = one.2 ∙ is.chain;
      })

  pub under_more : CheckpointStepped false t u → IsUnder r s u
  under_more step = more_under t.running is.running step

  done_under : (running : Option RunningState)
      → OfRunning running (λ q. q.op ≡ r.op) → OfRunning running (λ q. (t.blocks.left ≡ []) × (u ≡ finished t q)) → IsFinished r s u
  done_under None under step = absurd under
  done_under (Some q) under step = subst (λ (v : Replica). IsFinished r s v) (sym step.1) (record {
    idle = refl;
    op = under;
    chain = omega (arith, is.chain, ap (λ (l : List ℕ). length l) step.0);
    file = ap (λ (v : Replica). v.file) is.same;
    head = ap (λ (v : Replica). v.head) is.same;
    replies = ap (λ (v : Replica). v.replies) is.same;
    staged = ap (λ (v : Replica). v.staged) is.same;
    durable = is.captured;
    table = ap (λ (v : Replica). v.table) is.same;
    live = is.live;
  })

  pub under_done : CheckpointStepped true t u → IsFinished r s u
  under_done step = done_under t.running is.running step

-- ---- calls

pub one_step_more : (n : ℕ) (s u t : Replica) (old mid new : Option Told)
    → MakeAll (replicate n Advance) s u old mid → MakeAll (Advance ∷ []) u t mid new → MakeAll (replicate (n + 1) Advance) s t old new
one_step_more n s u t old mid new one two = subst (λ (l : List Command).
    MakeAll l s t old new) (replicate_more n Advance) (make_more (replicate n Advance) (Advance ∷ []) s u t old mid new one two)

pub one_step_ends : (n : ℕ) (s u t : Replica) (old mid new : Option Told) (ending : Ending) → MakeAll (replicate n Advance) s u old mid
    → EndIn (Advance ∷ []) u t mid new ending → EndIn (replicate (n + 1) Advance) s t old new ending
one_step_ends n s u t old mid new ending one two =
    rw (replicate_more n Advance) at (end_more (replicate n Advance) (Advance ∷ []) s u t old mid new one ending two)
