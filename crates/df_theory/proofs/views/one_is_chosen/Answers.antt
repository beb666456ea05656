use Rattle.df_theory.proofs.OneFound.{one_chosen_law}
use Rattle.df_theory.proofs.views.one_is_chosen.Goals as goal

pub returns : goal.returns
returns c = one_chosen_law
