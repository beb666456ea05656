use Rattle.df_history.proofs.Founds.{one_prepare_law}
use Rattle.df_history.proofs.histories.one_prepare_an_op_and_boot.Goals as goal

pub returns : goal.returns
returns c = one_prepare_law
