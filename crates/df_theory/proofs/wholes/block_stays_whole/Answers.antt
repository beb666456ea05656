use Rattle.df_theory.proofs.Keeps.{whole_block_law}
use Rattle.df_theory.proofs.wholes.block_stays_whole.Goals as goal

pub returns : goal.returns
returns c = whole_block_law
