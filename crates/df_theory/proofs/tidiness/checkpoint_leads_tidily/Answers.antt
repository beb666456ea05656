use Rattle.df_theory.proofs.Tidy.{tidy_finish_law}
use Rattle.df_theory.proofs.tidiness.checkpoint_leads_tidily.Goals as goal

pub returns : goal.returns
returns c = tidy_finish_law
