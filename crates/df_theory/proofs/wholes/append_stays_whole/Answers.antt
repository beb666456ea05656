use Rattle.df_theory.proofs.Keeps.{whole_append_law}
use Rattle.df_theory.proofs.wholes.append_stays_whole.Goals as goal

pub returns : goal.returns
returns c = whole_append_law
