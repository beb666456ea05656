use Rattle.df_theory.proofs.Writes.{calm_law}
use Rattle.df_theory.proofs.writers.calm_write_keeps.Goals as goal

pub returns : goal.returns
returns c = calm_law
