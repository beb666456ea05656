use Rattle.df_theory.proofs.OneAnswer.{one_answer_law}
use Rattle.df_theory.proofs.views.one_answer_is_given.Goals as goal

pub returns : goal.returns
returns c = one_answer_law
