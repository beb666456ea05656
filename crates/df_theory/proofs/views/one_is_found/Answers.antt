use Rattle.df_theory.proofs.OneFound.{one_found_law}
use Rattle.df_theory.proofs.views.one_is_found.Goals as goal

pub returns : goal.returns
returns c = one_found_law
