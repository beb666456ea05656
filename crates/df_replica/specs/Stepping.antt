-- The steps of a running checkpoint: a trailer block each, and at last the superblock that ends it. No state of the machine is in sight.
use Rattle.std.specs.Prelude.{◌≡◌, ◌≢◌, ◌+◌, ◌-◌, ℕ, List, [], ◌∷◌, length, Option, Some, None, Result, Ok, Err}
use Rattle.df_base.specs.{declared.TheConstants.{HEADER}, Fields.{spelled}, Log.{Event, Sync}}
use Rattle.df_disk.specs.{Told.{Told}, Adds.{AddsPart, after_all}}
use Rattle.df_layout.specs.{declared.damage.Class.{Class}, declared.places.Place.{Place}}
use Rattle.df_format.specs.{declared.superblock.SuperFields.{SuperFields}, Copies.{content_with}, Message.{Message}}
use Rattle.df_theory.specs.Units
use Rattle.df_units.specs.Meaning.{number_of}
use Rattle.df_superblock.specs.{Calls.{ReadsBack}, Events.{update_events}}
use Rattle.df_superblock.specs.declared.updates.UpdateError.TheVariants as update
use Rattle.df_trailer.specs.Writing.{piece_of}
use Rattle.df_grid.specs.{Table.{next_written}, Writes.{first_address, first_sum, made_events, next_block, next_unit}}
use Rattle.df_model.specs.{Blocks.{capture_finished}, declared.answers.Progress.{Progress}, declared.answers.Progress.TheVariants.{Working, Done}, declared.errors.StepError.{StepError}}
use Rattle.df_model.specs.declared.errors.StepError.TheVariants as step
use Rattle.df_opening.specs.Below.{RunningState, State, captured_text, grid_with, recorded}
use Rattle.df_replica.specs.Stopping.{stopped}

-- a fact of the running checkpoint
abbrev pub OfRunning : Option RunningState → (RunningState → Type 0) → Type 0
OfRunning None P = ⊥
OfRunning (Some r) P = P r

-- ---- a trailer block

-- the next one, over the next piece of the text
abbrev pub trailer_unit : State → RunningState → Message
trailer_unit s r = next_unit (grid_with s.file s.boot s.blocks) r.sequence (piece_of (s.file.layout.block_size - HEADER) r.written (captured_text s.file s.blocks r))

-- it is written, without a sync
abbrev pub block_events : State → RunningState → List Event
block_events s r = made_events s.file.layout (trailer_unit s r)

abbrev pub block_sum : State → RunningState → ℕ
block_sum s r = number_of (trailer_unit s r).header.checksum

-- in the machine's words, with this checksum
abbrev pub block_to_write : State → RunningState → (sum : ℕ) → Units.Block
block_to_write s r sum = next_block (grid_with s.file s.boot s.blocks) r.sequence (piece_of (s.file.layout.block_size - HEADER) r.written (captured_text s.file s.blocks r)) sum

-- the state with a trailer block more
abbrev pub advanced : State → RunningState → State
advanced s r = record s { blocks = next_written s.blocks (block_sum s r); running = Some (record r { written = r.written + 1 }) }

-- ---- the last step

-- a superblock with what a checkpoint captured, where its trailer ends with this block
abbrev pub captured_fields : SuperFields → RunningState → (address : ℕ) → List ℕ → SuperFields
captured_fields f r address checksum = record f { sequence = r.sequence; op = r.op; op_checksum = r.op_checksum; trailer_address = address; trailer_checksum = checksum; trailer_size = r.size }

-- what the one that ends it says: the checkpoint reaches the op that was captured, and the state is that of the moment
abbrev pub next_fields : State → RunningState → SuperFields
next_fields s r = recorded s (captured_fields s.fields r (first_address s.blocks.written) (spelled 16 (first_sum s.blocks.written)))

-- a sync, which makes all that was written durable, and then the four copies
abbrev pub last_events : State → RunningState → List Event
last_events s r = Sync ∷ update_events (next_fields s r)

-- the state in which it is the durable checkpoint
abbrev pub finished : State → RunningState → State
finished s r = record s { fields = next_fields s r; root = r.root; blocks = capture_finished s.blocks; running = None }

-- ---- any step

-- the checksum of what it makes, where these addresses are to come: of the trailer block, or of the superblock
abbrev pub made_for : State → RunningState → List ℕ → ℕ
made_for s r [] = number_of (content_with (next_fields s r)).checksum
made_for s r (a ∷ more) = block_sum s r

abbrev pub made_by : State → Option RunningState → ℕ
made_by s None = 0
made_by s (Some r) = made_for s r s.blocks.left

abbrev pub events_for : State → RunningState → List ℕ → List Event
events_for s r [] = last_events s r
events_for s r (a ∷ more) = block_events s r

abbrev pub step_events : State → RunningState → List Event
step_events s r = events_for s r s.blocks.left

-- a disk that tells what it shows
abbrev pub TellsImage : Option Told → Type 0
TellsImage None = ⊥
TellsImage (Some t) = Unit {0}

-- two of the four copies or more weren't read back as they were written: the place is that of the first of them, with the class of what was seen there
abbrev pub IsReadWrong : Option Told → SuperFields → Place → Class → Type 0
IsReadWrong told f place class = ReadsBack {T = Unit {0}} told f (Err (update.Damaged place class))

-- what a step answers, with the state after it and what the disk then tells: exact for each answer; after a fault, or where copies of the new superblock were not read back, the replica isn't live, and nothing else in memory moved
abbrev pub IsStepCall : (s t : State) → (old new : Option Told) → Result Progress StepError → Type 0
IsStepCall s t old new (Ok (Working left)) = OfRunning s.running (λ r. (s.blocks.left ≢ []) × (left ≡ length s.blocks.left) × (t ≡ advanced s r) × (new ≡ after_all (block_events s r) old))
IsStepCall s t old new (Ok (Done sequence)) = OfRunning s.running (λ r. (s.blocks.left ≡ []) × (sequence ≡ r.sequence) × (t ≡ finished s r) × (new ≡ after_all (last_events s r) old))
IsStepCall s t old new (Err step.NotRunning) = (s.running ≡ None) × (t ≡ s) × (new ≡ old)
IsStepCall s t old new (Err (step.Damaged place class)) = OfRunning s.running (λ r. (s.blocks.left ≡ []) × (t ≡ stopped s) × (new ≡ after_all (last_events s r) old) × (TellsImage new → ⊥) × IsReadWrong new (next_fields s r) place class)
IsStepCall s t old new (Err step.DiskFault) = OfRunning s.running (λ r. (t ≡ stopped s) × AddsPart (step_events s r) old new)

-- ---- its parts

-- how many trailer blocks are to come, where a checkpoint runs
abbrev pub pending : Option RunningState → List ℕ → Option ℕ
pending None left = None
pending (Some r) left = Some (length left)

-- a checkpoint runs, and there is a trailer block to come
pub record MayAdvance (s : State) : Type 0 where
  pub runs : OfRunning s.running (λ r. Unit {0})
  pub some : s.blocks.left ≢ []

-- a checkpoint runs, and its trailer is written
pub record MayFinishCheckpoint (s : State) : Type 0 where
  pub runs : OfRunning s.running (λ r. Unit {0})
  pub done : s.blocks.left ≡ []

-- what became of a superblock of these fields, before which all that was written is synced
abbrev pub IsMadeSuperblock : {T : Type 0} → SuperFields → (old new : Option Told) → Result T StepError → Type 0
IsMadeSuperblock f old new (Ok x) = new ≡ after_all (Sync ∷ update_events f) old
IsMadeSuperblock f old new (Err step.NotRunning) = ⊥
IsMadeSuperblock f old new (Err (step.Damaged place class)) = (new ≡ after_all (Sync ∷ update_events f) old) × (TellsImage new → ⊥) × IsReadWrong new f place class
IsMadeSuperblock f old new (Err step.DiskFault) = AddsPart (Sync ∷ update_events f) old new
