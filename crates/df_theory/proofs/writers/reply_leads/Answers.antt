use Rattle.df_theory.proofs.Writes.{reply_law}
use Rattle.df_theory.proofs.writers.reply_leads.Goals as goal

pub returns : goal.returns
returns c = reply_law
