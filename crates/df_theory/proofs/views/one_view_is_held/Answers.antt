use Rattle.df_theory.proofs.OneFound.{one_view_law}
use Rattle.df_theory.proofs.views.one_view_is_held.Goals as goal

pub returns : goal.returns
returns c = one_view_law
