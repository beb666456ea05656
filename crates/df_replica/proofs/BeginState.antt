-- The state with a checkpoint that was begun makes sense.
use Rattle.std.proofs.{Common.{◌≡◌, ◌∙◌, ℕ, ◌-◌, List, length, take, Option, refl, subst, arith}, lemmas.List.{length-take}}
use Rattle.{df_sessions.specs.Table.{IsSessionTable}, df_theory.specs.Trailer.{IsCount}, df_model.specs.{Blocks.{Blocks}, Memory.{free_of}}}
use Rattle.df_opening.specs.Below.{RunningState, IsCourse, IsLevel, IsRunningCheckpoint, IsState, State, memory}
use Rattle.df_replica.specs.{declared.begin.Plan.{Plan}, Beginning.{MayBeginCheckpoint, captured, needed, with_checkpoint_begun}}

-- a state makes sense with other blocks and another course, where those do
pub with_course : (s : State) (b : Blocks) (r : Option RunningState)
    → IsState s → IsCourse s.file s.fields s.head b r → IsLevel s.head s.head_checksum r → IsState (record s { blocks = b; running = r })
with_course s b r is course level = record { in_file = is.in_file; booted = is.booted; ends = is.ends; awaits = is.awaits; staging = is.staging; captured = level; course = course }

module _ (s : State) (root : List ℕ) (plan : Plan) (is : IsState s) (table : IsSessionTable s.table) (may : MayBeginCheckpoint s root plan) where
  abbrev b : Blocks
  b = (with_checkpoint_begun s root).blocks

  taken : length (take (needed s root) (free_of (memory s))) ≡ needed s root
  taken = length-take (needed s root) (free_of (memory s)) ∙ (let all = may.free in omega (arith, all))

  pub is_running : IsRunningCheckpoint s.file s.fields s.head b (captured s root)
  is_running = record {
    begun = record { op_from = is.order; op_to = omega arith; sequence = (refl, omega (arith, may.unspent)) };
    contents = record { parent = is.parent; first = is.first; root = may.short; sessions = omega (arith, table.within, is.places) };
    trailer = record {
      size = refl;
      fits = (omega (arith, may.planned.some, may.planned.size), omega (arith, may.planned.longest, may.planned.size));
      count = subst (λ (n : ℕ). IsCount (s.file.layout.block_size - 256) n (needed s root))
          may.planned.size (subst (λ (n : ℕ). IsCount (s.file.layout.block_size - 256) plan.size n) may.planned.blocks may.planned.count);
      few = omega (arith, may.planned.few, may.planned.blocks);
    };
    progress = record { all = omega (arith, taken); written = refl };
  }
