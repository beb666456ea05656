use Rattle.df_history.proofs.Samples.{history_sample_law}
use Rattle.df_history.proofs.histories.a_history_is_lived.Goals as goal

pub returns : goal.returns
returns c = history_sample_law
