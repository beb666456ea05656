use Rattle.df_theory.proofs.Had.{one_content_law}
use Rattle.df_theory.proofs.histories.one_content_a_rank.Goals as goal

pub returns : goal.returns
returns c = one_content_law
