use Rattle.df_theory.proofs.Writes.{copy_law}
use Rattle.df_theory.proofs.writers.copy_keeps.Goals as goal

pub returns : goal.returns
returns c = copy_law
