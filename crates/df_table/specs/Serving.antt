-- How far a session over a script has come, and what its functions say of it.
use Rattle.std.specs.Prelude.{◌≡◌, ◌⊎◌, ◌<◌, ◌≤◌, ◌+◌, ◌*◌, ◌^◌, ℕ, Bool, true, IsTrue, List, ◌++◌, length, map, vec_len, All, Option, Some}
use Rattle.df_base.specs.Streams.{Appends, AppendsPart}
use Rattle.df_disk.specs.Told.{Told}
use Rattle.df_layout.specs.declared.layout.Layout.{Layout}
use Rattle.df_lines.specs.{Room.{IsAtEnd, line_bound}, Text.{unread}, Lines.{Begins}}
use Rattle.df_rows.specs.{Grammar.{Said, SaysTableLine}, Limits.{rows_in_block}, Lines.{accepted as change_of, all_accepted, line_of_turn, map_text, table_after}, Tables.{Table}}
use Rattle.df_session.specs.{Below.{State as Replica}, Links.{AreCalls}, Session.{Exchange, acts_in, command_in}}
use Rattle.df_table.specs.{declared.ending.Ending.{Ending}, declared.session.Session.{Session}, declared.status.Status.{Status}, declared.status.Status.TheVariants.{DiskFault, Refused, WriteFault}}
use Rattle.df_table.specs.{Outside.{Step}, Outside.{EndsWithFile, Outside, WritesTableText}, Ready.{IsSteady, LeavesScript}, Session.{EndsTableText, Halt, HaltsIn, ServingEndsWith, closing, said_in}}
use Rattle.df_table.specs.{Statuses.{ending_text, status_of}, Turns.{AreFit, AreTurns, EndIn, IsOfCall, TableTurn, WasAccepted, commands_of, table_said}}
use Rattle.df_program.specs.{declared.turn.Turn.TheVariants.{Ends, GoesOn as Goes}, Turns.{IsPrinted, OnGoing}}
pub use Rattle.df_program.specs.Turns.{BlamesIfEnds, OnGoing}

-- ---- how far it has come

-- what is around it, the table and the replica, the text that is unread where the source tells it, how many bytes may still be taken, and how many lines were executed
pub record ServingState : Type 0 where
  pub outside : Outside
  pub table : Table
  pub replica : Replica
  pub text : Option (List ℕ)
  pub budget : ℕ
  pub lines : ℕ

abbrev pub state : Outside → Session → ServingState
state outside s = record { outside = outside; table = s.table; replica = s.replica; text = unread s.lines.reading.held outside.left; budget = s.lines.reading.budget; lines = s.count }

-- what is true of it between two lines, whatever the disk tells
pub record IsServing (layout : Layout) (s : Session) (left : Option (List ℕ)) : Type 0 where
  pub live : s.replica.live ≡ true
  pub block : 64 * rows_in_block layout ≤ vec_len s.block
  pub bound : s.lines.reading.bound ≡ line_bound layout
  pub count : s.count + s.lines.reading.budget ≤ 2 ^ 33
  pub at_end : IsTrue s.lines.ended → IsAtEnd left

-- after a turn it is ready for the next one: of the same layout, with fewer bytes that may be taken
pub record IsReadyForNext (old new : Session) (left : Option (List ℕ)) : Type 0 where
  pub layout : new.layout ≡ old.layout
  pub serving : IsServing old.layout new left
  pub budget : new.lines.reading.budget < old.lines.reading.budget

-- from origin to now these lines were executed, the first ones of the text, and what a map answers to them is written
pub record ServingExecuted (layout : Layout) (origin now : ServingState) (turns : List TableTurn) : Type 0 where
  pub text : (text : List ℕ) → origin.text ≡ Some text → (rest : List ℕ) × (now.text ≡ Some rest) × Begins SaysTableLine (line_bound layout) origin.budget text (table_said turns) now.budget rest
  pub written : Appends origin.outside.written now.outside.written (map_text origin.table origin.replica.head (table_said turns))
  pub lines : now.lines ≡ origin.lines + length turns
  pub calls : AreTurns layout origin.replica origin.outside.told origin.table turns now.replica now.outside.told now.table
  pub head : now.replica.head ≡ origin.replica.head + length (all_accepted origin.table (table_said turns))

-- and then it ended: no line was left, the next one is none, the source failed, or something ended it within the next line
pub record ServingEnded (layout : Layout) (origin now : ServingState) (status : Status) : Type 0 where
  pub turns : List TableTurn
  pub replica : Replica
  pub mid : Option Told
  pub table : Table
  pub are : AreTurns layout origin.replica origin.outside.told origin.table turns replica mid table
  pub halt : Option Halt
  pub cut : Bool
  pub halts : HaltsIn layout replica mid table halt now.replica now.outside.told
  pub text : (text : List ℕ) → origin.text ≡ Some text
      → (budget : ℕ) × (rest : List ℕ) × Begins SaysTableLine (line_bound layout) origin.budget text (table_said turns ++ said_in halt) budget rest × EndsTableText (line_bound layout) budget rest now.outside.left cut status
  pub written : ServingEndsWith (map_text origin.table origin.replica.head (table_said turns) ++ closing (origin.lines + length turns) halt cut) halt cut origin.outside.written now.outside.written status

-- ---- one line

-- it was executed: it took its calls, all of which were accepted, and this is the table after it
pub record IsExecuted (layout : Layout) (said : Said) (s t : Replica) (old new : Option Told) (table later : Table) : Type 0 where
  pub exchanges : List Exchange
  pub steps : ℕ
  pub calls : AreCalls s old exchanges t new
  pub are : map command_in (acts_in exchanges) ≡ commands_of layout s table steps said
  pub accepted : All WasAccepted exchanges
  pub fit : AreFit (change_of table said)
  pub behind_is : later ≡ table_after table said
  pub head : t.head ≡ s.head + length (change_of table said)

-- and its answer is printed, or a front of it where the sink failed; or something ended the session within it, and says why
abbrev pub AnswersLine : Layout → Said → (s t : Replica) → (old new : Option Told) → (table later : Table) → (written took : Option (List ℕ)) → Step → Type 0
AnswersLine layout said s t old new table later written took Goes = IsExecuted layout said s t old new table later × Appends written took (line_of_turn table s.head said)
AnswersLine layout said s t old new table later written took (Ends status) =
    (IsExecuted layout said s t old new table later × (status ≡ WriteFault) × AppendsPart written took (line_of_turn table s.head said))
    ⊎ ((ending : Ending) × (steps : ℕ) × EndIn (commands_of layout s table steps said) s t old new ending × WritesTableText (ending_text ending) (status_of ending) written took status × AreFit (change_of table said)
    × IsOfCall new ending)

-- a line ends a session as one of these alone
abbrev pub EndsLine : Step → Type 0
EndsLine Goes = Unit {0}
EndsLine (Ends status) = (status ≡ Refused) ⊎ (status ≡ DiskFault) ⊎ (status ≡ WriteFault)

-- no turn ends it for want of memory, or for other words
abbrev pub EndsTurn : Step → Type 0
EndsTurn Goes = Unit {0}
EndsTurn (Ends status) = EndsWithFile status

-- It was executed by a session: where replica and table were as they have to be, it was answered so, and they are so again. Where the session goes on, the table is the one after the line.
pub record ExecutesLine (layout : Layout) (said : Said) (old new : Session) (told later : Option Told) (written took : Option (List ℕ)) (turn : Step) : Type 0 where
  pub answers : IsSteady layout old.replica old.table → AnswersLine layout said old.replica new.replica told later old.table new.table written took turn
  pub steady : IsSteady layout old.replica old.table → OnGoing turn (IsSteady layout new.replica new.table)
  pub live : OnGoing turn (new.replica.live ≡ true)
  pub behind_is : OnGoing turn (new.table ≡ table_after old.table said)
  pub leaves : LeavesScript old new
  pub ends : EndsLine turn

-- a text is printed, or a front of it where the sink failed
abbrev pub TellsLine : List ℕ → (old new : Option (List ℕ)) → Step → Type 0
TellsLine text old new turn = IsPrinted WriteFault text old new turn

-- ---- turns

abbrev pub ServingGoesOn : Layout → (old new : ServingState) → Type 0
ServingGoesOn layout old new = (origin : ServingState) (turns : List TableTurn) → ServingExecuted layout origin old turns → (more : List TableTurn) × ServingExecuted layout origin new (turns ++ more)

abbrev pub ServingEndsIn : Layout → (old new : ServingState) → Status → Type 0
ServingEndsIn layout old new status = (origin : ServingState) (turns : List TableTurn) → ServingExecuted layout origin old turns → ServingEnded layout origin new status

abbrev pub TableTurns : Layout → (old new : ServingState) → Step → Type 0
TableTurns layout old new Goes = ServingGoesOn layout old new
TableTurns layout old new (Ends status) = ServingEndsIn layout old new status
