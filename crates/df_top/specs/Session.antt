-- How far a session has come, and what it has done when it ends.
use Rattle.std.specs.Prelude.{◌≡◌, ◌⊎◌, ◌<◌, ◌+◌, ℕ, Bool, true, false, IsTrue, List, [], ◌++◌, length, Option, Some, None}
use Rattle.df_base.specs.Streams.{Appends, AppendsPart}
use Rattle.df_disk.specs.Told.{Told}
use Rattle.df_layout.specs.{declared.damage.Class.{Class}, declared.places.Place.{Place}}
use Rattle.df_lines.specs.{Room.{IsAtEnd}, Script.{BeginsWithLines, IsRefused}, Text.{line_of, unread}}
use Rattle.df_model.specs.Commands.{Command}
use Rattle.df_pace.specs.{declared.beat.Beat.{Beat}, declared.pace.Pace.{Pace}}
use Rattle.df_session.specs.{Below.{State as Replica}, Session.{Act}, Endings.{IsDamagedStep}}
use Rattle.df_script_model.specs.Texts.{damaged_text}
use Rattle.df_top.specs.{Lines.{Failing, Turned, act_of, all_said, printed, said_of}, Outside.{Outside}, Pacing.{AreTurns, EndTurns}, declared.session.Session.{Session}}
use Rattle.df_top.specs.{declared.status.Status.{Status}, declared.status.Status.TheVariants.{Done, Script, Refused, DiskFault, ReadFault, WriteFault}}

-- What a session has before it: the outside, the text that is unread where the source tells it, how many bytes may still be taken, how many lines were
-- executed, the replica, and where the loop beside the script stands.
pub record SessionState : Type 0 where
  pub outside : Outside
  pub text : Option (List ℕ)
  pub budget : ℕ
  pub lines : ℕ
  pub replica : Replica
  pub beat : Beat

abbrev pub state : Outside → Session → SessionState
state outside s = record { outside = outside; text = unread s.lines.reading.held outside.left; budget = s.lines.reading.budget; lines = s.count; replica = s.replica; beat = s.beat }

-- a source that has said that it has ended has nothing left
abbrev pub EndedIsEnd : Session → Option (List ℕ) → Type 0
EndedIsEnd s left = IsTrue s.lines.ended → IsAtEnd left

-- ---- executed, and ended

-- from origin to now these calls were made and answered: their lines are the first ones of the text, and what the lines' answers print is written
pub record Executed (pace : Pace) (bound : ℕ) (origin now : SessionState) (turns : List Turned) : Type 0 where
  pub text : (text : List ℕ) → origin.text ≡ Some text → (rest : List ℕ) × (now.text ≡ Some rest) × BeginsWithLines bound origin.budget text (all_said turns) now.budget rest
  pub written : Appends origin.outside.written now.outside.written (printed origin.lines turns false)
  pub lines : now.lines ≡ origin.lines + length (all_said turns)
  pub calls : AreTurns pace origin.beat origin.replica origin.outside.told turns now.beat now.replica now.outside.told

-- of this rest of a text, of which the source has so much left, its first line was read, or more of it than the bound
pub record HoldsLine (bound : ℕ) (rest left : List ℕ) : Type 0 where
  pub held : List ℕ
  pub is : rest ≡ held ++ left
  pub line : (line_of held ≡ line_of rest) ⊎ (bound < length (line_of held))

-- what is unread at the end: where the script is cut, a line that is refused, and the source was read as far as that takes; at Done nothing at all
pub record EndsText (bound budget : ℕ) (rest : List ℕ) (left : Option (List ℕ)) (cut : Bool) (status : Status) : Type 0 where
  pub refused : cut ≡ true → IsRefused bound budget rest
  pub held : cut ≡ true → (remains : List ℕ) → left ≡ Some remains → HoldsLine bound rest remains
  pub finished : status ≡ Done → (rest ≡ []) × (left ≡ Some [])

-- the line of a step that is damaged
pub record IsDamagedLine (command : Command) (told : Option Told) (line : List ℕ) : Type 0 where
  pub place : Place
  pub class : Class
  pub is : line ≡ damaged_text place class
  pub step : IsDamagedStep command told place class

-- What is written at the end, and which call was not answered: all that is to be printed, or a front of it where the sink failed. After a step that is
-- damaged comes its line.
abbrev pub EndsWith : (n : ℕ) → (old new : Outside) → List Turned → (failed : Option Act) → (cut : Bool) → Status → Type 0
EndsWith n old new turns None cut Done = (cut ≡ false) × Appends old.written new.written (printed n turns cut)
EndsWith n old new turns None cut Script = (cut ≡ true) × Appends old.written new.written (printed n turns cut)
EndsWith n old new turns None cut ReadFault = (cut ≡ false) × Appends old.written new.written (printed n turns cut)
EndsWith n old new turns None cut WriteFault = AppendsPart old.written new.written (printed n turns cut)
EndsWith n old new turns (Some a) cut DiskFault = (cut ≡ false) × Appends old.written new.written (printed n turns cut)
EndsWith n old new turns (Some a) cut Refused = (cut ≡ false) × (line : List ℕ) × IsDamagedLine a.command new.told line × Appends old.written new.written (printed n turns cut ++ line)
EndsWith n old new turns (Some a) cut WriteFault = (cut ≡ false) × (line : List ℕ) × IsDamagedLine a.command new.told line × AppendsPart old.written new.written (printed n turns cut ++ line)
EndsWith n old new turns failed cut status = ⊥

-- from origin to now a session was executed to its end: the lines of these calls are the first ones of the text, each call was answered, and then one more was not, or
-- there was none
pub record Ended (pace : Pace) (bound : ℕ) (origin now : SessionState) (status : Status) : Type 0 where
  pub turns : List Turned
  pub failing : Option Failing
  pub cut : Bool
  pub text : (text : List ℕ) → origin.text ≡ Some text
      → (budget : ℕ) × (rest : List ℕ) × BeginsWithLines bound origin.budget text (all_said turns ++ said_of failing) budget rest × EndsText bound budget rest now.outside.left cut status
  pub written : EndsWith origin.lines origin.outside now.outside turns (act_of failing) cut status
  pub calls : EndTurns pace origin.beat origin.replica origin.outside.told turns failing status now.replica now.outside.told
