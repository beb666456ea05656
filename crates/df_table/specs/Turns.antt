-- The calls of a session: those of its opening, and then those of one line after the other, until one isn't answered, or the answer is a refusal that ends it.
use Rattle.std.specs.Prelude.{◌≡◌, ◌⊎◌, ℕ, List, [], ◌∷◌, ◌++◌, map, All, Option, Some, None, Err}
use Rattle.df_disk.specs.Told.{Told}
use Rattle.df_layout.specs.{declared.layout.Layout.{Layout}, declared.damage.Class.{Class}, declared.places.Place.{Place}}
use Rattle.df_model.specs.Commands.{Answer, Command, ToAdvance, ToAppend, ToBegin, ToReadBlock, ToReadPrepare, ToFlush, ToReadReply, ToRelease, ToReply, ToStage, ToWriteBlock}
use Rattle.df_model.specs.declared.errors.AppendError.TheVariants as append
use Rattle.df_model.specs.declared.errors.BeginError.TheVariants as begin
use Rattle.df_model.specs.declared.reading.PrepareError.TheVariants as prepare
use Rattle.df_model.specs.declared.reading.ReadError.TheVariants as read
use Rattle.df_rows.specs.{declared.command.Command.{Command as Change}, Commands.{IsCommand}, Grammar.{Said}, Tables.{Table}, Lines.{accepted, table_after}}
use Rattle.df_session.specs.{Below.{State as Replica, memory}, Endings.{IsDamagedStep}, Links.{AreCalls, EndsCalls, list_of}, Session.{Act, Exchange, acts_in, answers_in, command_in}}
use Rattle.df_table.specs.{declared.ending.Ending.{Ending}, declared.ending.Ending.TheVariants.{Disk, Damaged, NotTable, OpsSpent, SequenceSpent}, Policy.{line_commands}}

-- ---- commands

-- it is no refusal, and no read of what isn't shown
abbrev pub IsAccepted : Answer → Type 0
IsAccepted (ToAppend (Err e)) = ⊥
IsAccepted (ToStage (Err e)) = ⊥
IsAccepted (ToFlush (Err e)) = ⊥
IsAccepted (ToReply (Err e)) = ⊥
IsAccepted (ToWriteBlock (Err e)) = ⊥
IsAccepted (ToRelease (Err e)) = ⊥
IsAccepted (ToBegin (Err e)) = ⊥
IsAccepted (ToAdvance (Err e)) = ⊥
IsAccepted (ToReadPrepare (Err e)) = ⊥
IsAccepted (ToReadReply (Err e)) = ⊥
IsAccepted (ToReadBlock (Err e)) = ⊥
IsAccepted answer = Unit {0}

abbrev pub WasAccepted : Exchange → Type 0
WasAccepted x = IsAccepted x.answer

-- these commands were made, one after the other, and each was accepted
pub record MakeAll (commands : List Command) (s t : Replica) (old new : Option Told) : Type 0 where
  pub exchanges : List Exchange
  pub calls : AreCalls s old exchanges t new
  pub are : map command_in (acts_in exchanges) ≡ commands
  pub accepted : All WasAccepted exchanges

-- each of these calls was accepted, but perhaps the last, after which nothing was made
abbrev pub AreAccepted : List Exchange → (failed : Option Act) → Type 0
AreAccepted [] failed = Unit {0}
AreAccepted (x ∷ exchanges) failed = (WasAccepted x ⊎ ((exchanges ≡ []) × (failed ≡ None))) × AreAccepted exchanges failed

-- the last of these answers
abbrev pub LastIs : Answer → List Answer → Type 0
LastIs answer answers = (before : List Answer) × (answers ≡ before ++ answer ∷ [])

-- a read of what isn't shown: what it names
abbrev pub ReadsDamaged : Place → Class → Answer → Type 0
ReadsDamaged place class answer = (answer ≡ ToReadBlock (Err (read.Damaged place class))) ⊎ (answer ≡ ToReadPrepare (Err (prepare.Damaged place class)))

-- why calls ended: the last one has no answer, since the disk failed, or copies of the superblock aren't read back as a step wrote them; or its answer is that no op, or no
-- sequence, is left, or that what was to be read isn't shown; or what was read shows that the file is no table's
abbrev pub EndsFor : Ending → (new : Option Told) → List Answer → (failed : Option Act) → Type 0
EndsFor Disk new answers failed = (a : Act) × (failed ≡ Some a)
EndsFor (Damaged place class) new answers failed =
    ((a : Act) × (failed ≡ Some a) × IsDamagedStep a.command new place class) ⊎ ((failed ≡ None) × ((answer : Answer) × LastIs answer answers × ReadsDamaged place class answer))
EndsFor (NotTable place) new answers failed = failed ≡ None
EndsFor OpsSpent new answers failed = (failed ≡ None) × LastIs (ToAppend (Err append.OpsSpent)) answers
EndsFor SequenceSpent new answers failed = (failed ≡ None) × LastIs (ToBegin (Err begin.SequenceSpent)) answers

-- a call of a line ends it: the disk failed, or no op or no sequence is left; or it tells nothing, and the copies of a superblock aren't read back as they were written
abbrev pub IsOfCall : Option Told → Ending → Type 0
IsOfCall told Disk = Unit {0}
IsOfCall told (Damaged place class) = told ≡ None
IsOfCall told (NotTable place) = ⊥
IsOfCall told OpsSpent = Unit {0}
IsOfCall told SequenceSpent = Unit {0}

-- the first of these commands were made, and no further one, since this ended them
pub record EndIn (commands : List Command) (s t : Replica) (old new : Option Told) (ending : Ending) : Type 0 where
  pub exchanges : List Exchange
  pub failed : Option Act
  pub calls : EndsCalls s t old new exchanges failed
  pub rest : List Command
  pub are : map command_in (acts_in exchanges ++ list_of failed) ++ rest ≡ commands
  pub accepted : AreAccepted exchanges failed
  pub why : EndsFor ending new (answers_in exchanges) failed

-- ---- a line

-- a line that was executed, with the calls that it took
pub record TableTurn : Type 0 where
  pub said : Said
  pub exchanges : List Exchange

-- the commands of a line over this table, where a checkpoint takes this many steps
abbrev pub commands_of : Layout → Replica → Table → (steps : ℕ) → Said → List Command
commands_of layout s t steps said = line_commands layout (memory s) t.rows steps (accepted t said)

-- each of these has a key and a value that fit a command
abbrev pub AreFit : List Change → Type 0
AreFit [] = Unit {0}
AreFit (c ∷ more) = IsCommand c × AreFit more

-- from one state to another these lines were executed, one after the other: each took its calls, all of which were answered
pub data AreTurns (layout : Layout) : (s : Replica) (old : Option Told) (t : Table) (turns : List TableTurn) (u : Replica) (new : Option Told) (v : Table) → Type 0 where
  NoTurns : {s : Replica} {old : Option Told} {t : Table} → AreTurns layout s old t [] s old t
  NextTurn : {x : TableTurn} {turns : List TableTurn} {s u : Replica} {old new : Option Told} {t v : Table} (r : Replica) (mid : Option Told) (steps : ℕ) → map command_in (acts_in x.exchanges) ≡ commands_of layout s t steps x.said → AreCalls s old x.exchanges r mid
      → All WasAccepted x.exchanges → AreFit (accepted t x.said) → AreTurns layout r mid (table_after t x.said) turns u new v → AreTurns layout s old t (x ∷ turns) u new v

abbrev pub table_said : List TableTurn → List Said
table_said [] = []
table_said (x ∷ turns) = x.said ∷ table_said turns

abbrev pub table_exchanges : List TableTurn → List Exchange
table_exchanges [] = []
table_exchanges (x ∷ turns) = x.exchanges ++ table_exchanges turns
