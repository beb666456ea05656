-- What a session answers and prints, as a function of what the disk shows at its start and of its lines.
use Rattle.std.specs.Prelude.{◌≡◌, ℕ, List, [], ◌∷◌, ◌++◌, map}
use Rattle.df_base.specs.Image.{Image}
use Rattle.df_lines.specs.Grammar.{Said}
use Rattle.df_theory.specs.View.{View}
use Rattle.df_model.specs.{Commands.{Command}, Supply.{Shown}, Work.{Work}}
use Rattle.df_session.specs.{Begun.{begun_work}, Below.{DataFile, shape}, Reading.{shown_of}, Codec.{codec}, Session.{acts_in, command_in}, Resulting.{AnswersResult}}
use Rattle.df_pace.specs.{Beats.{idle}, Loop.{all_commands, paced, start}, declared.pace.Pace.{Pace}}
use Rattle.df_script_model.specs.Script.{printed}
use Rattle.df_top.specs.{Lines.{Turned, all_said, all_text, command_of_line, exchanges_in}, Outside.{IsThrough}, declared.status.Status.{Status}}

-- one text after the other
abbrev pub joined : List (List ℕ) → List ℕ
joined [] = []
joined (text ∷ texts) = text ++ joined texts

-- what these lines print over what is shown, from this state of the machine on, with work of this pace beside them
abbrev pub text_over : Pace → DataFile → Shown → Work → List Said → List ℕ
text_over pace file shown w says = joined (paced (shape file) (codec file) pace (start shown w) (map command_of_line says))

-- what they print over a file whose disk shows this image, in which an open finds this view, and whose boot it raises
abbrev pub script_text_of : Pace → DataFile → View → Image → List Said → List ℕ
script_text_of pace file view image says = text_over pace file (shown_of file image) (begun_work file image view) says

-- beside no work it is what the machine prints of the lines alone
abbrev pub TextAlone : Type 0
TextAlone = (file : DataFile) (shown : Shown) (w : Work) (says : List Said) → text_over idle file shown w says ≡ joined (printed (shape file) (codec file) shown w (map command_of_line says))

-- all commands of a session: its lines', each followed by those of the loop that are due after it
abbrev pub commands_over : Pace → DataFile → Shown → Work → List Said → List Command
commands_over pace file shown w says = all_commands (shape file) (codec file) pace (start shown w) (map command_of_line says)

-- So it is of these calls: they answer and print what the machine does, and they are the first of all commands that their lines come to; all of them where nothing failed.
pub record IsResultOf (pace : Pace) (file : DataFile) (shown : Shown) (w : Work) (turns : List Turned) (status : Status) : Type 0 where
  pub answers : AnswersResult file shown w (exchanges_in turns)
  pub text : all_text turns ≡ text_over pace file shown w (all_said turns)
  pub rest : List Command
  pub commands : commands_over pace file shown w (all_said turns) ≡ map command_in (acts_in (exchanges_in turns)) ++ rest
  pub whole : IsThrough status → rest ≡ []
