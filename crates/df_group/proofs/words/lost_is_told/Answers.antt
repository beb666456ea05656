-- As the theory's law says.
use Rattle.df_theory.proofs.Laws.{lost_law}
use Rattle.df_group.proofs.words.lost_is_told.Goals as goal

pub returns : goal.returns
returns c = lost_law
