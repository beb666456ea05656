use Rattle.df_theory.proofs.Tidy.{tidy_sync_law}
use Rattle.df_theory.proofs.tidiness.sync_leads_tidily.Goals as goal

pub returns : goal.returns
returns c = tidy_sync_law
