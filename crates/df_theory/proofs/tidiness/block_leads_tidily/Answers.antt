use Rattle.df_theory.proofs.Tidy.{tidy_block_law}
use Rattle.df_theory.proofs.tidiness.block_leads_tidily.Goals as goal

pub returns : goal.returns
returns c = tidy_block_law
