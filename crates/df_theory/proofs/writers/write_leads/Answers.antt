use Rattle.df_theory.proofs.Writes.{write_law}
use Rattle.df_theory.proofs.writers.write_leads.Goals as goal

pub returns : goal.returns
returns c = write_law
