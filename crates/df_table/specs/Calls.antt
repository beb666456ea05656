-- What each call of a session comes to, where nothing refuses it but want of ops or of sequences.
use Rattle.std.specs.Prelude.{◌≡◌, ◌≢◌, ◌⊎◌, ◌+◌, ℕ, Bool, true, false, List, [], ◌∷◌, ◌++◌, if◌then◌else◌, replicate, Option, Some, None, Result, Ok, Err, IfErr, IfOk, OnOk}
use Rattle.df_disk.specs.Told.{Told}
use Rattle.df_layout.specs.declared.layout.Layout.{Layout}
use Rattle.df_model.specs.{Commands.{Advance, Begin, Command}, Refusals.{append_refusals, first_refusal}, declared.answers.Progress.{Progress}, declared.errors.StepError.{StepError}}
use Rattle.df_model.specs.declared.answers.Progress.TheVariants as progress
use Rattle.df_model.specs.declared.errors.AppendError.TheVariants as append
use Rattle.df_model.specs.declared.errors.BeginError.TheVariants as begin
use Rattle.df_model.specs.declared.errors.StepError.TheVariants as step
use Rattle.df_rows.specs.{declared.command.Command.{Command as Change}, Commands.{Map}, Tables.{with_command}}
use Rattle.df_session.specs.{Beginning.{begin_refusal}, Below.{State as Replica, memory}, Stepping.{OfRunning, advanced, finished}}
use Rattle.df_table.specs.{declared.ending.Ending.{Ending}, declared.ending.Ending.TheVariants.{Damaged, Disk, OpsSpent}, declared.session.Session.{Session}}
use Rattle.df_table.specs.{Policy.{checkpoint, line_commands, opening, room_for, the_client, writes}, Ready.{IsReadyReplica}, Turns.{EndIn, IsOfCall, MakeAll}}

-- all of these commands were made and accepted; or the first of them were made, and this ended them
abbrev pub Comes : {T : Type 0} → List Command → (s t : Replica) → (old new : Option Told) → Result T Ending → Type 0
Comes commands s t old new (Ok x) = MakeAll commands s t old new
Comes commands s t old new (Err ending) = EndIn commands s t old new ending

-- calls may go on; or it ended, as a call of a line may end it
abbrev pub GoesOrEnds : {T : Type 0} → Result T Ending → (t : Replica) → (new : Option Told) → Type 0
GoesOrEnds (Ok x) t new = t.live ≡ true
GoesOrEnds (Err ending) t new = IsOfCall new ending

-- ---- what may be refused

-- no reason refuses an append, but that no op is left
abbrev pub MayAppendCommand : Replica → (request : ℕ) → List ℕ → Type 0
MayAppendCommand s request body =
    let refusal = first_refusal (append_refusals (memory s) the_client request body) in
    (refusal ≡ None) ⊎ (refusal ≡ Some append.OpsSpent)

-- no reason refuses a begin without a root, but that no sequence is left
abbrev pub MayBegin : Replica → Type 0
MayBegin s = let refusal = begin_refusal s [] in (refusal ≡ None) ⊎ (refusal ≡ Some begin.SequenceSpent)

-- a checkpoint runs
abbrev pub IsCheckpointing : Replica → Type 0
IsCheckpointing s = OfRunning s.running (λ r. Unit {0})

-- ---- answers

-- why a session ends by an error of a call: the disk failed, or this
abbrev pub ended_or : {E : Type 0} → (is_fault : E → Bool) → Ending → E → Ending
ended_or is_fault otherwise e = if is_fault e then Disk else otherwise

-- what is taken of an answer, or why the session ends
abbrev pub taken : {T U E : Type 0} → (of : T → U) → (is_fault : E → Bool) → Ending → Result T E → Result U Ending
taken of is_fault otherwise (Ok x) = Ok (of x)
taken of is_fault otherwise (Err e) = Err (ended_or is_fault otherwise e)

-- of a step whether the checkpoint is done
abbrev pub stepped : Result Progress StepError → Result Bool Ending
stepped (Ok (progress.Done sequence)) = Ok true
stepped (Ok (progress.Working left)) = Ok false
stepped (Err (step.Damaged place class)) = Err (Damaged place class)
stepped (Err e) = Err Disk

-- ---- states

-- after a step, by whether the checkpoint is done
abbrev pub CheckpointStepped : Bool → (s t : Replica) → Type 0
CheckpointStepped false s t = OfRunning s.running (λ r. (s.blocks.left ≢ []) × (t ≡ advanced s r))
CheckpointStepped true s t = OfRunning s.running (λ r. (s.blocks.left ≡ []) × (t ≡ finished s r))

-- ---- a checkpoint of the table, and a line

-- this many steps
abbrev pub Advances : {T : Type 0} → (s t : Replica) → (old new : Option Told) → Result T Ending → Type 0
Advances s t old new result = (n : ℕ) × Comes (replicate n Advance) s t old new result

-- a checkpoint without a root is begun, with this many steps after it
abbrev pub Concludes : {T : Type 0} → (s t : Replica) → (old new : Option Told) → Result T Ending → Type 0
Concludes s t old new result = (steps : ℕ) × Comes (Begin [] ∷ replicate steps Advance) s t old new result

-- the blocks of the table are written before
abbrev pub Fills : {T : Type 0} → Layout → Map → (s t : Replica) → (old new : Option Told) → Result T Ending → Type 0
Fills layout rows s t old new result = (steps : ℕ) × Comes (writes layout rows ++ (Begin [] ∷ replicate steps Advance)) s t old new result

-- its commands, with this many steps
abbrev pub Checkpoints : {T : Type 0} → Layout → Map → (s t : Replica) → (old new : Option Told) → Result T Ending → Type 0
Checkpoints layout rows s t old new result = (steps : ℕ) × Comes (checkpoint layout (memory s) rows steps) s t old new result

-- those, where the ring is full, and else none
abbrev pub MakesRoom : {T : Type 0} → Layout → Map → (s t : Replica) → (old new : Option Told) → Result T Ending → Type 0
MakesRoom layout rows s t old new result = (steps : ℕ) × Comes (room_for layout (memory s) rows steps) s t old new result

-- those of a put or a drop that isn't refused
abbrev pub Changes : {T : Type 0} → Layout → Map → Change → (s t : Replica) → (old new : Option Told) → Result T Ending → Type 0
Changes layout rows c s t old new result = (steps : ℕ) × Comes (line_commands layout (memory s) rows steps (c ∷ [])) s t old new result

-- and it was done: its op is the next one, and the replica is as ready as before
pub record IsChanged (layout : Layout) (rows : Map) (c : Change) (s t : Replica) (old new : Option Told) (result : Result ℕ Ending) : Type 0 where
  pub makes : Changes layout rows c s t old new result
  pub op : IfOk result (λ op. op ≡ s.head + 1)
  pub head : OnOk result (t.head ≡ s.head + 1)
  pub ready : OnOk result (IsReadyReplica layout t)
  pub ends : IfErr result (IsOfCall new)

-- calls may go on, and the table is changed
pub record HasApplied (c : Change) (old new : Session) : Type 0 where
  pub live : new.replica.live ≡ true
  pub table : new.table ≡ with_command c old.table

-- those of the opening
abbrev pub OpensTable : {T : Type 0} → (s t : Replica) → (old new : Option Told) → Result T Ending → Type 0
OpensTable s t old new result = Comes (opening (memory s)) s t old new result
