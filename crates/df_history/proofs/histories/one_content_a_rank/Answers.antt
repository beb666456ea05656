use Rattle.df_history.proofs.Founds.{one_content_law}
use Rattle.df_history.proofs.histories.one_content_a_rank.Goals as goal

pub returns : goal.returns
returns c = one_content_law
