-- The state whose live blocks changed: it makes sense, and what it is in the words of the machine.
use Rattle.std.{proofs.Common.{◌≡◌, ℕ, false, List, Option, Some, None, refl, sym, ap, subst}, specs.Prelude.{Result, Ok, Err, OnErr, OnOk}}
use Rattle.{df_format.specs.declared.superblock.SuperFields.{SuperFields}, df_grid.specs.Grid.{GridState, with_blocks as grid_of}}
use Rattle.df_model.{specs.{Blocks.{Blocks, block_released, sum_at}, Memory.{Course}, Work.{is_known}, declared.errors.BlockError.{BlockError}}, proofs.Laws.{known_none, without_none}}
use Rattle.df_opening.specs.Below.{DataFile, RunningState, IsCourse, IsState, State, course_in, memory}
use Rattle.df_replica.{specs.Blocks.{address_or, with_grid_blocks}, proofs.BeginState.{with_course}}

-- ---- other live blocks

-- the blocks with these live ones
abbrev pub lives : Blocks → List (ℕ × ℕ) → Blocks
lives b live = record b { live = live }

course_kept : (file : DataFile) (b : Blocks) (live : List (ℕ × ℕ)) (r : Option RunningState)
    → course_in file (lives b live) r ≡ course_in file b r
course_kept file b live None = refl
course_kept file b live (Some r) = refl

pub blocks_memory : (s : State) (live : List (ℕ × ℕ))
    → memory (with_grid_blocks s (lives s.blocks live)) ≡ record (memory s) { blocks = lives s.blocks live }
blocks_memory s live =
    ap (λ (r : Option Course). record (memory s) { blocks = lives s.blocks live; running = r }) (course_kept s.file s.blocks live s.running)

course_live : (file : DataFile) (f : SuperFields) (head : ℕ) (b : Blocks) (live : List (ℕ × ℕ)) (r : Option RunningState)
    → IsCourse file f head b r → IsCourse file f head (lives b live) r
course_live file f head b live None idle = record { captured = idle.captured; written = idle.written; left = idle.left }
course_live file f head b live (Some r) is =
    record { begun = is.begun; contents = is.contents; trailer = is.trailer; progress = record { all = is.all; written = is.written } }

pub live_state : (s : State) (live : List (ℕ × ℕ)) → IsState s → IsState (with_grid_blocks s (lives s.blocks live))
live_state s live is =
    with_course s (lives s.blocks live) s.running is (course_live s.file s.fields s.head s.blocks live s.running is.course) is.captured

-- ---- an address that isn't live

pub not_live_stays : (b : Blocks) (a : ℕ) → is_known (sum_at a b.live) ≡ false → block_released b a ≡ b
not_live_stays b a not_live = ap (lives b) (without_none a b.live (known_none (sum_at a b.live) not_live))

-- ---- the address of the next block

pub address_given : (o : Option BlockError) (a n : ℕ) → Ok n ≡ address_or o a → (o ≡ None) × (n ≡ a)
address_given None a n is = (refl, (let same : n ≡ a = cc in same))
address_given (Some e) a n is = absurd (cc)

pub refusal_given : (o : Option BlockError) (a : ℕ) (e : BlockError) → Err e ≡ address_or o a → o ≡ Some e
refusal_given None a e is = absurd (cc)
refusal_given (Some x) a e is = ap (λ (y : BlockError). Some y) (let same : x ≡ e = cc in same)

-- ---- the grid after a write

-- it has the blocks after it, or at a fault those before
pub either_grid : {A E : Type 0} (result : Result A E) (old new : GridState) (b : Blocks)
    → OnOk result (new ≡ grid_of old b) → OnErr result (new ≡ old) → (P : GridState → Type 0) → P (grid_of old b) → P old → P new
either_grid (Ok x) old new b is failed P after before = subst P (sym is) after
either_grid (Err e) old new b is failed P after before = subst P (sym failed) before
