use Rattle.df_theory.proofs.Writes.{append_law}
use Rattle.df_theory.proofs.writers.append_leads.Goals as goal

pub returns : goal.returns
returns c = append_law
