use Rattle.df_theory.proofs.Mends.{mend_law}
use Rattle.df_theory.proofs.mending.mending_keeps.Goals as goal

pub returns : goal.returns
returns c = mend_law
