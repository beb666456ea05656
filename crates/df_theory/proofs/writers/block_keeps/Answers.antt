use Rattle.df_theory.proofs.Writes.{block_law}
use Rattle.df_theory.proofs.writers.block_keeps.Goals as goal

pub returns : goal.returns
returns c = block_law
