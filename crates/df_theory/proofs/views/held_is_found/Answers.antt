use Rattle.df_theory.proofs.OneFound.{found_law}
use Rattle.df_theory.proofs.views.held_is_found.Goals as goal

pub returns : goal.returns
returns c = found_law
