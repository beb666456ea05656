use Rattle.df_theory.proofs.Tidy.{tidy_mend_law}
use Rattle.df_theory.proofs.tidiness.mending_leads_tidily.Goals as goal

pub returns : goal.returns
returns c = tidy_mend_law
