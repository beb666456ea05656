use Rattle.df_history.proofs.Founds.{one_reply_law}
use Rattle.df_history.proofs.histories.one_reply_an_op_and_boot.Goals as goal

pub returns : goal.returns
returns c = one_reply_law
