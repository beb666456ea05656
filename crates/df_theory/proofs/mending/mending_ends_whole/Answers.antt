use Rattle.df_theory.proofs.Mends.{mends_whole_law}
use Rattle.df_theory.proofs.mending.mending_ends_whole.Goals as goal

pub returns : goal.returns
returns c = mends_whole_law
