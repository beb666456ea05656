-- The calls of a session: where something of the loop's work is due, it asks for the next call, and else the next line does.
use Rattle.std.specs.Prelude.{◌≡◌, Bool, List, [], ◌∷◌, Option, Some, None}
use Rattle.df_disk.specs.Told.{Told}
use Rattle.df_model.specs.Commands.{Answer, Command}
use Rattle.df_pace.specs.{Beats.{beat_after_line, beat_after_piece, command_of_piece as piece_command, is_begun, next_piece}, declared.beat.Beat.{Beat}, declared.pace.Pace.{Pace}}
use Rattle.df_session.specs.{Below.{State as Replica, is_running, memory}, Links.{AreCalls, Calls, EndsCalls, More, NoCalls}}
use Rattle.df_top.specs.{Lines.{Asker, ByLine, ByLoop, Failing, Turned, act_of, command_of_line, exchanges_in}, declared.status.Status.{Status}, declared.status.Status.TheVariants.{WriteFault}}

-- ---- what is next

abbrev pub runs : Replica → Bool
runs s = is_running (memory s).running

-- nothing is due
abbrev pub IsIdleBeat : Beat → Replica → Type 0
IsIdleBeat b s = next_piece b.due (runs s) ≡ None

-- a line is next where nothing is due, and asks for its call; a piece of the work where it is the next that is due
abbrev pub IsNextCommand : Beat → Replica → Asker → Command → Type 0
IsNextCommand b s (ByLine said) c = (c ≡ command_of_line said) × IsIdleBeat b s
IsNextCommand b s (ByLoop p) c = (c ≡ piece_command p s.root) × (next_piece b.due (runs s) ≡ Some p)

-- where the loop stands after a call that was answered
abbrev pub beat_after : Pace → Beat → Asker → Replica → Answer → Beat
beat_after pace b (ByLine said) t x = beat_after_line pace b t.head (runs t)
beat_after pace b (ByLoop p) t x = beat_after_piece p (is_begun x) b t.head

-- ---- calls in turn

-- from one state to another these calls were made, one after the other, each was next, and each was answered
pub data AreTurns (pace : Pace) : (b : Beat) (s : Replica) (old : Option Told) (turns : List Turned) (c : Beat) (t : Replica) (new : Option Told) → Type 0 where
  NoTurns : {b : Beat} {s : Replica} {old : Option Told} → AreTurns pace b s old [] b s old
  NextTurn : {x : Turned} {xs : List Turned} {b c : Beat} {s t : Replica} {old new : Option Told} (u : Replica) (mid : Option Told) → IsNextCommand b s x.asker x.exchange.act.command → Calls x.exchange.act s u old mid (Some x.exchange.answer)
      → AreTurns pace (beat_after pace b x.asker u x.exchange.answer) u mid xs c t new → AreTurns pace b s old (x ∷ xs) c t new

abbrev pub calls_in : {pace : Pace} {b : Beat} {s : Replica} {old : Option Told} {turns : List Turned} {c : Beat} {t : Replica} {new : Option Told} → AreTurns pace b s old turns c t new → AreCalls s old (exchanges_in turns) t new
calls_in NoTurns = NoCalls
calls_in (NextTurn u mid is call rest) = More u mid call (calls_in rest)

-- They were; and the next one was not answered, if there is one. Else all of the work that is due was done, where the sink didn't fail with an answer's line.
abbrev pub EndTurns : Pace → (b : Beat) → (s : Replica) → (old : Option Told) → List Turned → Option Failing → Status → (t : Replica) → (new : Option Told) → Type 0
EndTurns pace b s old turns None status t new = (c : Beat) × AreTurns pace b s old turns c t new × ((status ≡ WriteFault → ⊥) → IsIdleBeat c t)
EndTurns pace b s old turns (Some f) status t new = (c : Beat) × (u : Replica) × (mid : Option Told) × AreTurns pace b s old turns c u mid × IsNextCommand c u f.asker f.act.command × Calls f.act u t mid new None

abbrev pub all_calls : (pace : Pace) → (b : Beat) → (s : Replica) → (old : Option Told) → (turns : List Turned) → (failing : Option Failing) → (status : Status) → (t : Replica) → (new : Option Told) → EndTurns pace b s old turns failing status t new → EndsCalls s t old new (exchanges_in turns) (act_of failing)
all_calls pace b s old turns None status t new ends = calls_in ends.1
all_calls pace b s old turns (Some f) status t new ends = (ends.1, ends.2, calls_in ends.3, ends.5)
