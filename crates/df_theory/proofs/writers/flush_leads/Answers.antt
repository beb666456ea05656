use Rattle.df_theory.proofs.FlushLaws.{flush_law}
use Rattle.df_theory.proofs.writers.flush_leads.Goals as goal

pub returns : goal.returns
returns c = flush_law
