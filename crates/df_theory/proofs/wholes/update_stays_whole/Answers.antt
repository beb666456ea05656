use Rattle.df_theory.proofs.Keeps.{whole_update_law}
use Rattle.df_theory.proofs.wholes.update_stays_whole.Goals as goal

pub returns : goal.returns
returns c = whole_update_law
