use Rattle.df_theory.proofs.Writes.{header_law}
use Rattle.df_theory.proofs.writers.header_keeps.Goals as goal

pub returns : goal.returns
returns c = header_law
