use Rattle.df_theory.proofs.Writes.{anew_law}
use Rattle.df_theory.proofs.writers.log_begins_anew.Goals as goal

pub returns : goal.returns
returns c = anew_law
