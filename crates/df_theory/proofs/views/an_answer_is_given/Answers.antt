use Rattle.df_theory.proofs.Complete.{an_answer_law}
use Rattle.df_theory.proofs.views.an_answer_is_given.Goals as goal

pub returns : goal.returns
returns c = an_answer_law
