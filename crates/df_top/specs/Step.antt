-- What one line of a script, or one piece of the work after it, does to a session, whatever was executed before it.
use Rattle.std.specs.Prelude.{◌≡◌, ◌⊎◌, ◌+◌, ◌-◌, ℕ, List, ◌++◌, Option, Some, None}
use Rattle.df_base.specs.Streams.{Appends, AppendsPart}
use Rattle.df_disk.specs.Told.{Told}
use Rattle.df_inspect.specs.Opening.{script_text}
use Rattle.df_lines.specs.{Grammar.{Said}, Script.{IsLine}, Text.{after_line, taken}}
use Rattle.df_model.specs.Commands.{Answer, Command}
use Rattle.df_pace.specs.{Beats.{beat_after_piece, is_begun}, declared.beat.Beat.{Beat}, declared.beat.Piece.{Piece}, declared.pace.Pace.{Pace}}
use Rattle.df_session.specs.{Below.{State as Replica}, Links.{Makes}}
use Rattle.df_script_model.specs.Script.{answer_text}
use Rattle.df_top.specs.{Lines.{Turned}, Session.{Ended, Executed, IsDamagedLine, SessionState}, Outside.{PrintsLine, Turn}, declared.status.Status.{Status}}
use Rattle.df_top.specs.declared.status.Status.TheVariants.{Script, Refused, DiskFault, WriteFault}
use Rattle.df_program.specs.declared.turn.Turn.TheVariants.{GoesOn as Goes, Ends as EndsBy}

-- the call was made and was answered
abbrev pub IsAnsweredCall : Command → (s t : Replica) → (old new : Option Told) → (List ℕ → Type 0) → Type 0
IsAnsweredCall command s t old new Printed = (x : Answer) × Makes command s t old new (Some x) × Printed (answer_text command x)

-- it is a step that is damaged, and has no answer but the line that ends the session
abbrev pub EndsDamaged : Command → (s t : Replica) → (old new : Option Told) → (List ℕ → Type 0) → Type 0
EndsDamaged command s t old new Printed = (line : List ℕ) × Makes command s t old new None × IsDamagedLine command new line × Printed line

-- the call was made and its answer is printed; or the disk failed in it; or it is a step that is damaged; or the sink failed with its line
abbrev pub AnswersCommand : Command → (s t : Replica) → (old new : Option Told) → (written took : Option (List ℕ)) → Turn → Type 0
AnswersCommand command s t old new written took Goes = IsAnsweredCall command s t old new (λ line. Appends written took line)
AnswersCommand command s t old new written took (EndsBy DiskFault) = Makes command s t old new None × (took ≡ written)
AnswersCommand command s t old new written took (EndsBy Refused) = EndsDamaged command s t old new (λ line. Appends written took line)
AnswersCommand command s t old new written took (EndsBy WriteFault) = IsAnsweredCall command s t old new (λ line. AppendsPart written took line) ⊎ EndsDamaged command s t old new (λ line. AppendsPart written took line)
AnswersCommand command s t old new written took (EndsBy status) = ⊥

-- A piece of the loop's work was done: the call was made, and nothing is printed of its answer; or the disk failed in it; or it is a step that is damaged, whose line
-- ends the session; or the sink failed with that.
abbrev pub Passes : Piece → Command → (s t : Replica) → (old new : Option Told) → (written took : Option (List ℕ)) → (b c : Beat) → Turn → Type 0
Passes p command s t old new written took b c Goes = (x : Answer) × Makes command s t old new (Some x) × (took ≡ written) × (c ≡ beat_after_piece p (is_begun x) b t.head)
Passes p command s t old new written took b c (EndsBy DiskFault) = Makes command s t old new None × (took ≡ written)
Passes p command s t old new written took b c (EndsBy Refused) = EndsDamaged command s t old new (λ line. Appends written took line)
Passes p command s t old new written took b c (EndsBy WriteFault) = EndsDamaged command s t old new (λ line. AppendsPart written took line)
Passes p command s t old new written took b c (EndsBy status) = ⊥

-- the line that refuses the next line was written, or a front of it where the sink failed
abbrev pub RefusesLine : (n : ℕ) → (old new : Option (List ℕ)) → Status → Type 0
RefusesLine n old new status = PrintsLine (script_text (n + 1)) Script old new status

-- the next line was taken, and says this
abbrev pub TakesNextLine : (bound : ℕ) → SessionState → Said → Option (List ℕ) → ℕ → Type 0
TakesNextLine bound old said text budget =
    (rest : List ℕ) → old.text ≡ Some rest → IsLine bound old.budget rest said × (text ≡ Some (after_line rest)) × (budget ≡ old.budget - taken rest)

-- the session goes on with some calls more, or ends
abbrev pub SessionGoesOn : Pace → (bound : ℕ) → (old new : SessionState) → Type 0
SessionGoesOn pace bound old new = (origin : SessionState) (turns : List Turned) → Executed pace bound origin old turns → (more : List Turned) × Executed pace bound origin new (turns ++ more)

abbrev pub EndsIn : Pace → (bound : ℕ) → (old new : SessionState) → Status → Type 0
EndsIn pace bound old new status = (origin : SessionState) (turns : List Turned) → Executed pace bound origin old turns → Ended pace bound origin new status

abbrev pub Turns : Pace → (bound : ℕ) → (old new : SessionState) → Turn → Type 0
Turns pace bound old new Goes = SessionGoesOn pace bound old new
Turns pace bound old new (EndsBy status) = EndsIn pace bound old new status
