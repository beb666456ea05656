use Rattle.df_theory.proofs.Tidy.{tidy_append_law}
use Rattle.df_theory.proofs.tidiness.append_leads_tidily.Goals as goal

pub returns : goal.returns
returns c = tidy_append_law
