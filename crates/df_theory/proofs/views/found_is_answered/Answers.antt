use Rattle.df_theory.proofs.OneAnswer.{found_answer_law}
use Rattle.df_theory.proofs.views.found_is_answered.Goals as goal

pub returns : goal.returns
returns c = found_answer_law
