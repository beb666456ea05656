use Rattle.df_theory.proofs.Writes.{update_law}
use Rattle.df_theory.proofs.writers.update_leads.Goals as goal

pub returns : goal.returns
returns c = update_law
