use Rattle.df_theory.proofs.Keeps.{stands_law}
use Rattle.df_theory.proofs.wholes.referenced_blocks_stand.Goals as goal

pub returns : goal.returns
returns c = stands_law
