-- The state after a step makes sense.
use Rattle.std.proofs.Common.{◌≡◌, ◌∙◌, ℕ, ◌+◌, List, [], ◌∷◌, length, Option, Some, refl, sym, ap, subst, arith}
use Rattle.{df_format.specs.declared.superblock.SuperFields.{SuperFields}, df_model.specs.Blocks.{Blocks}}
use Rattle.{df_grid.specs.{Grid.{GridState}, Table.{next_written, written_of}}, df_replica.specs.Stepping.{OfRunning}}
use Rattle.df_opening.specs.Below.{RunningCheckpoint, DataFile, running_state, running_of, RunningState, IsCourse, IsLevel, IsRunningCheckpoint, State, grid_with}

-- the checkpoint that runs is the one that was taken
pub of_running : (P : State → RunningState → Type 0) (s x : State) (o : Option RunningCheckpoint) (running : RunningCheckpoint)
    → o ≡ Some running → s.running ≡ running_of o → s ≡ x → P s (running_state running) → OfRunning x.running (P x)
of_running P s x o running at of same is = subst (λ (y : State). OfRunning y.running (P y)) same
    (subst (λ (q : Option RunningState). OfRunning q (P s)) (sym (of ∙ ap running_of at)) is)

pub taken_runs : (file : DataFile) (f : SuperFields) (head : ℕ) (b : Blocks) (o : Option RunningCheckpoint) (running : RunningCheckpoint)
    → o ≡ Some running → IsCourse file f head b (running_of o) → IsRunningCheckpoint file f head b (running_state running)
taken_runs file f head b o running at is = subst (λ (q : Option RunningCheckpoint). IsCourse file f head b (running_of q)) at is

-- what it captured goes with the head
pub taken_level : (head : ℕ) (checksum : List ℕ) (o : Option RunningCheckpoint) (running : RunningCheckpoint)
    → o ≡ Some running → IsLevel head checksum (running_of o) → IsLevel head checksum (Some (running_state running))
taken_level head checksum o running at is = subst (λ (q : Option RunningCheckpoint). IsLevel head checksum (running_of q)) at is

-- the grid of the file
pub grid_is : (file : DataFile) (grid : GridState)
    → grid.layout ≡ file.layout → grid.cluster ≡ file.cluster → grid ≡ grid_with file grid.boot grid.blocks
grid_is file grid layout cluster = λ i. record { layout = layout i; cluster = cluster i; boot = grid.boot; blocks = grid.blocks }

-- a trailer block more
pub running_on : (file : DataFile) (f : SuperFields) (head : ℕ) (b : Blocks) (r : RunningState) (sum : ℕ) → IsRunningCheckpoint
    file f head b r → (b.left ≡ [] → ⊥) → IsRunningCheckpoint file f head (next_written b sum) (record r { written = r.written + 1 })
running_on file f head b r sum is some = go b.left refl
  where
    go : (l : List ℕ) → b.left ≡ l → IsRunningCheckpoint file f head (written_of b sum l) (record r { written = r.written + 1 })
    go [] none = absurd (some none)
    go (a ∷ more) left = record {
      begun = is.begun;
      contents = is.contents;
      trailer = is.trailer;
      progress = record { all = omega (arith, is.all, ap length left); written = omega (arith, is.written) };
    }
