use Rattle.df_history.proofs.Since.{one_log_law}
use Rattle.df_history.proofs.histories.one_log_is_a_history.Goals as goal

pub returns : goal.returns
returns c = one_log_law
