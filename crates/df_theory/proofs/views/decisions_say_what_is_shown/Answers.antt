use Rattle.df_theory.proofs.Decisions.{decision_law}
use Rattle.df_theory.proofs.views.decisions_say_what_is_shown.Goals as goal

pub returns : goal.returns
returns c = decision_law
