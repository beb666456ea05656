use Rattle.df_theory.proofs.OneAnswer.{spent_answer_law}
use Rattle.df_theory.proofs.views.spent_boots_are_refused.Goals as goal

pub returns : goal.returns
returns c = spent_answer_law
