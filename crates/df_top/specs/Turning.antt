-- What the functions that serve a script say of their session.
use Rattle.std.specs.Prelude.{◌≡◌, ◌<◌, ◌≤◌, ◌+◌, ◌^◌, ℕ, Bool, true, false, List, Option, Some, None, Result, Ok, Err}
use Rattle.df_inspect.specs.Answers.{line_of_answer}
use Rattle.df_disk.specs.Told.{Told}
use Rattle.df_model.specs.{Commands.{Answer as Said, Command, ReadBlock, ReadPrepare, ReadReply}, declared.commands.Answer.{Answer}}
use Rattle.df_model.specs.declared.commands.Answer.TheVariants as answers
use Rattle.df_pace.specs.Beats.{beat_after_line, is_begun, pieces_left}
use Rattle.df_session.specs.{Below.{State as Replica}, Endings.{EndsBy}, Links.{Makes}, declared.hearing.Fault.{Fault}}
pub use Rattle.df_program.specs.Turns.{BlamesIfEnds, OnGoing}
use Rattle.df_program.specs.Turns as turns
use Rattle.df_top.specs.{Pacing.{runs}, Refusing.{PrintsFault}, Session.{EndedIsEnd}, declared.session.Session.{Session}, declared.status.Status.TheVariants.{WriteFault}, Outside.{Turn}}
use Rattle.df_program.specs.declared.turn.Turn.TheVariants.{GoesOn, Ends}

-- what becomes of the session by the printing of an answer
abbrev pub printed_turn : {T E : Type 0} → Result T E → Turn
printed_turn result = turns.printed_turn WriteFault result

-- a text is printed and the session goes on, or a front of it is there where the sink failed
abbrev pub IsPrinted : List ℕ → (old new : Option (List ℕ)) → Turn → Type 0
IsPrinted text old new turn = turns.IsPrinted WriteFault text old new turn

-- how what was heard of an answer is told: it has its line, and the session goes on; or the session ends, by the line of a step that is damaged, or by none where the disk failed
abbrev pub TellsAnswer : Command → Result Answer Fault → (old new : Option (List ℕ)) → Turn → Type 0
TellsAnswer command (Ok answer) old new turn = IsPrinted (line_of_answer command answer) old new turn
TellsAnswer command (Err fault) old new GoesOn = ⊥
TellsAnswer command (Err fault) old new (Ends status) = PrintsFault fault old new status

-- the call lends the unit that it reads
abbrev pub LendsUnit : Command → Type 0
LendsUnit (ReadPrepare op) = Unit {0}
LendsUnit (ReadReply client) = Unit {0}
LendsUnit (ReadBlock address) = Unit {0}
LendsUnit command = ⊥

-- a checkpoint was begun by a call that answered so
abbrev pub has_begun_in : Answer → Bool
has_begun_in (answers.Begin (Ok blocks)) = true
has_begun_in answer = false

-- what a piece of the work comes to: whether a checkpoint was begun by it, or why no call may follow
abbrev pub DoesPiece : Command → (s t : Replica) → (old new : Option Told) → Result Bool Fault → Type 0
DoesPiece command s t old new (Ok begun) = (x : Said) × Makes command s t old new (Some x) × (begun ≡ is_begun x)
DoesPiece command s t old new (Err fault) = Makes command s t old new None × EndsBy fault command new

-- the reader, how many lines were executed and the pace are as they were
pub record LeavesReader (old new : Session) : Type 0 where
  pub lines : new.lines ≡ old.lines
  pub count : new.count ≡ old.count
  pub pace : new.pace ≡ old.pace

-- calls may go on, and no more lines were executed than bytes were taken
pub record IsReadySession (s : Session) (left : Option (List ℕ)) : Type 0 where
  pub live : s.replica.live ≡ true
  pub count : s.count + s.lines.reading.budget ≤ 2 ^ 33
  pub at_end : EndedIsEnd s left

-- A line was served: the reader and the pace are as they were, the loop stands where it does after a line, and where the session goes on, calls may, and one line more was executed.
pub record ServesLine (old new : Session) (turn : Turn) : Type 0 where
  pub lines : new.lines ≡ old.lines
  pub pace : new.pace ≡ old.pace
  pub beat : new.beat ≡ beat_after_line old.pace old.beat new.replica.head (runs new.replica)
  pub live : OnGoing turn (new.replica.live ≡ true)
  pub count : OnGoing turn (new.count ≡ old.count + 1)

-- A line was taken: the bound of a line and the pace are as they were, and where the session goes on, it is ready for the next one, with fewer bytes to take.
pub record TakesLine (old new : Session) (left : Option (List ℕ)) (turn : Turn) : Type 0 where
  pub bound : new.lines.reading.bound ≡ old.lines.reading.bound
  pub pace : new.pace ≡ old.pace
  pub ready : OnGoing turn (IsReadySession new left)
  pub budget : OnGoing turn (new.lines.reading.budget < old.lines.reading.budget)

-- A piece of the work was done: the reader is left as it was, and where the session goes on, calls may, and fewer pieces are due.
pub record DoesNext (old new : Session) (turn : Turn) : Type 0 where
  pub leaves : LeavesReader old new
  pub live : OnGoing turn (new.replica.live ≡ true)
  pub fewer : OnGoing turn (pieces_left new.beat.due < pieces_left old.beat.due)
