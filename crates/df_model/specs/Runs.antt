-- Runs of commands.
use Rattle.std.specs.Prelude.{ℕ, List, [], ◌∷◌, map}
use Rattle.df_theory.specs.{Units.{Parts}, Shape.{Shape}, View.{View}, UnitLog.{UnitLog, now}, First.{IsFirst}, Runs.{Command as Led, Step, after_steps, steps_of}}
use Rattle.df_theory.specs.{TidyLaws.{IsTidy, LeadTidily, SurvivesWholeEach}, HeadlineLaws.{SurvivesEach}, WholeLaws.{IsStanding}, Found.{AreOfPlaces}}
use Rattle.df_model.specs.{Work.{Work, kept, opened}, Codec.{IsCodec}, Sense.{IsBacked, IsVersionTwo}, Laws.{DoesCommand, IsKeptBy}, Commands.{Answer, Command, Given, IsInput, after}}

-- a command with what it was supplied with
pub record Act : Type 0 where
  pub command : Command
  pub given : Given

abbrev pub command_in : Act → Command
command_in act = act.command

-- a call that was answered
pub record Exchange : Type 0 where
  pub act : Act
  pub answer : Answer

abbrev pub act_in : Exchange → Act
act_in x = x.act

abbrev pub answer_in : Exchange → Answer
answer_in x = x.answer

abbrev pub acts_in : List Exchange → List Act
acts_in exchanges = map act_in exchanges

abbrev pub answers_in : List Exchange → List Answer
answers_in exchanges = map answer_in exchanges

-- the state after these acts

abbrev pub work_after : Shape → (Parts → List ℕ) → Work → List Act → Work
work_after sh spell w [] = w
work_after sh spell w (act ∷ acts) = work_after sh spell (after sh spell w act.given act.command).0 acts

-- what the machine answers to them
abbrev pub run_answers : Shape → (Parts → List ℕ) → Work → List Act → List Answer
run_answers sh spell w [] = []
run_answers sh spell w (act ∷ acts) = (after sh spell w act.given act.command).1 ∷ run_answers sh spell (after sh spell w act.given act.command).0 acts

-- ---- over a device

-- an act with its steps
pub record Stepped : Type 0 where
  pub act : Act
  pub steps : List Step

abbrev pub act_of : Stepped → Act
act_of x = x.act

-- each of them does its steps, over the image that is shown at its start
abbrev pub DoAll : Shape → (Parts → List ℕ) → UnitLog → Work → List Stepped → Type 0
DoAll sh spell log w [] = Unit {0}
DoAll sh spell log w (x ∷ xs) = DoesCommand sh spell (now log) w x.act.given x.act.command x.steps × IsInput x.act.given x.act.command × DoAll sh spell (after_steps x.steps log) (after sh spell w x.act.given x.act.command).0 xs

-- each command with the view that it leads to
abbrev pub led_by : Shape → (Parts → List ℕ) → Work → List Stepped → List Led
led_by sh spell w [] = []
led_by sh spell w (x ∷ xs) = record { steps = x.steps; view = kept (after sh spell w x.act.given x.act.command).0 } ∷ led_by sh spell (after sh spell w x.act.given x.act.command).0 xs

-- a run of commands: a stop at any moment is survived with the view before or after the command that it falls into, and at the end the file is kept by the state after all of them
pub record RunsOn (sh : Shape) (spell : Parts → List ℕ) (log : UnitLog) (w : Work) (xs : List Stepped) : Type 0 where
  pub leads : LeadTidily sh log (kept w) (led_by sh spell w xs)
  pub survives : SurvivesEach sh log (kept w) (led_by sh spell w xs)
  pub keeps : IsKeptBy sh spell (after_steps (steps_of (led_by sh spell w xs)) log) (work_after sh spell w (map act_of xs))

-- and each referenced block survives too, where it was shown
pub record RunsBacked (sh : Shape) (spell : Parts → List ℕ) (log : UnitLog) (w : Work) (xs : List Stepped) : Type 0 where
  pub survives : SurvivesWholeEach sh log (kept w) (led_by sh spell w xs)
  pub backed : IsBacked (after_steps (steps_of (led_by sh spell w xs)) log) (work_after sh spell w (map act_of xs))

abbrev pub RunLaw : Type 0
RunLaw =
    (sh : Shape) (spell : Parts → List ℕ) (log : UnitLog) (w : Work) (xs : List Stepped) → IsKeptBy sh spell log w → DoAll sh spell log w xs
    → RunsOn sh spell log w xs × (IsBacked log w → RunsBacked sh spell log w xs)

-- a tidy file is kept by the state that an open makes of it
abbrev pub OpenedKeptLaw : Type 0
OpenedKeptLaw =
    (sh : Shape) (spell : Parts → List ℕ) (log : UnitLog) (v : View) → IsCodec sh spell → IsVersionTwo sh v → IsTidy sh log v → AreOfPlaces sh (now log)
    → IsKeptBy sh spell log (opened sh (now log) v) × (IsStanding log v → IsBacked log (opened sh (now log) v))

-- so is a file that was just made
abbrev pub FirstKeptLaw : Type 0
FirstKeptLaw =
    (sh : Shape) (spell : Parts → List ℕ) (log : UnitLog) (v : View) → IsCodec sh spell → IsVersionTwo sh v → IsTidy sh log v → IsStanding log v → IsFirst sh v
    → IsKeptBy sh spell log (opened sh (now log) v) × IsBacked log (opened sh (now log) v)
