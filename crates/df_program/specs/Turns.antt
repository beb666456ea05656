-- What becomes of a session by one turn, for any type of statuses.
use Rattle.std.specs.Prelude.{◌≡◌, ℕ, List, Option, Result, Ok, Err}
use Rattle.df_base.specs.Streams.{Appends, AppendsPart}
use Rattle.df_program.specs.{declared.turn.Turn.{Turn}, declared.turn.Turn.TheVariants.{GoesOn, Ends}, Telling.{Blames}}

-- where the session goes on
abbrev pub OnGoing : {S : Type 0} → Turn S → Type 0 → Type 0
OnGoing GoesOn P = P
OnGoing (Ends status) P = Unit {0}

-- a turn that goes on has raised no count
abbrev pub BlamesIfEnds : {S : Type 0} → (fault : S) → (before now : ℕ) → Turn S → Type 0
BlamesIfEnds fault before now GoesOn = now ≡ before
BlamesIfEnds fault before now (Ends status) = Blames fault before now status

-- what becomes of the session by the printing of an answer
abbrev pub printed_turn : {S T E : Type 0} → (fault : S) → Result T E → Turn S
printed_turn fault (Ok x) = GoesOn
printed_turn fault (Err e) = Ends fault

-- a text is printed and the session goes on, or a front of it is there where the sink failed
abbrev pub IsPrinted : {S : Type 0} → (fault : S) → List ℕ → (old new : Option (List ℕ)) → Turn S → Type 0
IsPrinted fault text old new GoesOn = Appends old new text
IsPrinted fault text old new (Ends status) = (status ≡ fault) × AppendsPart old new text
