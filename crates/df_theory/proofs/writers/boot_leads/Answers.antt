use Rattle.df_theory.proofs.Writes.{boot_law}
use Rattle.df_theory.proofs.writers.boot_leads.Goals as goal

pub returns : goal.returns
returns c = boot_law
