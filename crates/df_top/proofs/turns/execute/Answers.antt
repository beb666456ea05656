-- The call is the one that the line asks for.
use Rattle.{std.proofs.Common.{◌≡◌, ◌∙◌, List, ℕ, Option, subst, sym, ap}, df_disk.specs.Told.{Told}, df_inspect.specs.Answers.{command_of}}
use Rattle.{df_model.specs.Commands.{Command}, df_session.specs.Below.{State as Replica}}
use Rattle.df_top.specs.{Step.{AnswersCommand}, Outside.{Turn}}
use Rattle.df_top.proofs.turns.execute.Goals as goal

-- what answers the command that is asked for answers the line
served : (line asked : Command) (s t : Replica) (old new : Option Told) (written took : Option (List ℕ)) (turn : Turn)
    → asked ≡ line → AnswersCommand asked s t old new written took turn → AnswersCommand line s t old new written took turn
served line asked s t old new written took turn is did = subst (λ (c : Command). AnswersCommand c s t old new written took turn) is did

pub returns-in-Recent-clause-answers : goal.returns-in-Recent-clause-answers
returns-in-Recent-clause-answers g c = served _
    _ _ _ _ _ _ _ _ (sym (ap command_of c.in-Recent.is) ∙ c.from-command.ensures) (c.recent.ensures.answers (g.D.Disk.told c.args.disk.now))

pub returns-in-Recent-clause-disk : goal.returns-in-Recent-clause-disk
returns-in-Recent-clause-disk g c = c.recent.ensures.disk (g.D.Disk.faults c.args.disk.now)
