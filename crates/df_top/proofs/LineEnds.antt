-- What one line does to a session: it goes on with the call that the line asks for, or ends.
use Rattle.std.proofs.Common.{◌≡◌, ◌⊎◌, ◌<◌, inl, inr, true, ℕ, ◌+◌, List, ◌++◌, length, Option, Some, ◌∙◌, ap, subst, sym}
use Rattle.df_lines.specs.{declared.line.Line.{Line}, Grammar.{Said, SaysLine, said_with}, Reads.{RefusesNext, TakesLine}, Room.{HasTextToCome, ReaderParts}, Script.{IsRefused}, Text.{line_of, unread}}
use Rattle.{df_disk.specs.Told.{Told}, df_session.specs.Below.{State as Replica}, df_model.specs.Commands.{Command}}
use Rattle.df_pace.specs.{Beats.{beat_after_line}, declared.pace.Pace.{Pace}}
use Rattle.df_top.{specs.{Lines.{ByLine, command_of_line}, Outside.{Outside, Turn}, Pacing.{IsIdleBeat, IsNextCommand, runs}, Session.{EndedIsEnd, HoldsLine, SessionState, state}, Step.{AnswersCommand, EndsIn, RefusesLine, TakesNextLine, Turns}, Turning.{OnGoing}, declared.session.Session.{Session}, declared.status.Status.{Status}, declared.status.Status.TheVariants.{Done, Found, Words, Script, Refused, DiskFault, ReadFault, WriteFault, Memory}}, proofs.Progress.{ends_answer, ends_damaged, ends_damaged_fault, ends_disk, ends_script, ends_script_fault, goes_on}}
use Rattle.df_program.specs.declared.turn.Turn.TheVariants.{GoesOn, Ends}

-- the line that refuses the next line ends the session
pub ends_refused : (pace : Pace) (bound : ℕ) (old new : SessionState) → new.outside.told ≡ old.outside.told → new.replica ≡ old.replica
    → IsIdleBeat old.beat old.replica → ((rest : List ℕ) → old.text ≡ Some rest → IsRefused bound old.budget rest)
    → ((rest : List ℕ) → old.text ≡ Some rest → (remains : List ℕ) → new.outside.left ≡ Some remains → HoldsLine bound rest remains)
    → (status : Status) → RefusesLine old.lines old.outside.written new.outside.written status → EndsIn pace bound old new status
ends_refused pace bound old new same one idle refused holds status (inl wrote) =
    subst (λ (s : Status). EndsIn pace bound old new s) (sym wrote.0) (ends_script pace bound old new same one idle refused holds wrote.1)
ends_refused pace bound old new same one idle refused holds status (inr wrote) = subst (λ (s : Status).
    EndsIn pace bound old new s) (sym wrote.0) (ends_script_fault pace bound old new same one idle refused holds wrote.1)

-- what the reader refuses is refused
pub refused_next : (outside : Outside) (left : Option (List ℕ)) (old : Session) (room : ReaderParts) → EndedIsEnd old outside.left
    → ((text : List ℕ)
    → HasTextToCome old.lines outside.left text → RefusesNext SaysLine old.lines.reading room.reading text (unread room.reading.held left))
    → (text : List ℕ) → (state outside old).text ≡ Some text → IsRefused old.lines.reading.bound old.lines.reading.budget text
refused_next outside left old room ended gives text is = (gives text (record { is = is; ended = ended })).refuses

-- and the reader holds it, or more of it than the bound
pub held_next : (outside : Outside) (left : Option (List ℕ)) (old : Session) (room : ReaderParts)
    → EndedIsEnd old outside.left → room.reading.bound ≡ old.lines.reading.bound → ((text : List ℕ)
    → HasTextToCome old.lines outside.left text → RefusesNext SaysLine old.lines.reading room.reading text (unread room.reading.held left))
    → (text : List ℕ)
    → (state outside old).text ≡ Some text → (remains : List ℕ) → left ≡ Some remains → HoldsLine old.lines.reading.bound text remains
held_next outside left old room ended bound gives text is remains has =
    let refuses : RefusesNext SaysLine old.lines.reading room.reading text (unread room.reading.held left) =
    gives text (record { is = is; ended = ended }) in
    let whole : Some (room.reading.held ++ remains) ≡ Some text = rw has at refuses.rest in record {
      held = room.reading.held;
      is = cc whole;
      line = rw bound at refuses.read;
    }

-- ---- a line was taken

module _ (before after : Outside) (old : Session) (room : ReaderParts) (line : Line) (ended : EndedIsEnd old before.left)
    (gives : (text : List ℕ) → HasTextToCome old.lines before.left text → TakesLine SaysLine old.lines.reading room.reading text (unread
    room.reading.held after.left) (said_with room.body line)) where
  abbrev said : Said
  said = said_with room.body line

  module _ (new : Session) (kept : new.lines ≡ room) where
    takes : TakesNextLine old.lines.reading.bound (state before old) said (state after new).text (state after new).budget
    takes text is = let line_is = gives text (record { is = is; ended = ended }) in (
      line_is.line,
      ap (λ (l : ReaderParts). unread l.reading.held after.left) kept ∙ line_is.rest,
      ap (λ (l : ReaderParts). l.reading.budget) kept ∙ line_is.budget,
    )

    module _ (pace : Pace) (idle : IsIdleBeat old.beat old.replica) where
      abbrev bound : ℕ
      bound = old.lines.reading.bound

      next : (c : Command) → c ≡ command_of_line said → IsNextCommand old.beat old.replica (ByLine said) c
      next c is = (is, idle)

      pub line_turns : (turn : Turn) → AnswersCommand (command_of_line said)
          old.replica new.replica before.told after.told before.written after.written turn → OnGoing turn (new.count ≡ old.count + 1)
          → new.beat ≡ beat_after_line pace old.beat new.replica.head (runs new.replica)
          → Turns pace bound (state before old) (state after new) turn
      line_turns GoesOn did count beat = goes_on pace bound (state before old) (state after new) said takes idle did count beat
      line_turns (Ends DiskFault) did count beat =
          ends_disk pace bound (state before old) (state after new) (ByLine said) (command_of_line said) takes next did
      line_turns (Ends WriteFault) (inl did) count beat = ends_answer pace bound (state before old) (state after new) said takes idle did
      line_turns (Ends WriteFault) (inr did) count beat =
          ends_damaged_fault pace bound (state before old) (state after new) (ByLine said) (command_of_line said) takes next did
      line_turns (Ends Refused) did count beat =
          ends_damaged pace bound (state before old) (state after new) (ByLine said) (command_of_line said) takes next did
      line_turns case did count beat = absurd did

-- ---- calls may go on after a line that was answered

pub live_on : (said : Said) (s t : Replica) (old new : Option Told) (written took : Option (List ℕ)) (turn : Turn)
    → AnswersCommand (command_of_line said) s t old new written took turn → OnGoing turn (t.live ≡ true)
live_on said s t old new written took GoesOn did = did.1.calls.call.live
live_on said s t old new written took (Ends status) did = tt
