use Rattle.df_theory.proofs.Tidy.{tidy_idle_law}
use Rattle.df_theory.proofs.tidiness.reading_leads_tidily.Goals as goal

pub returns : goal.returns
returns c = tidy_idle_law
