use Rattle.df_theory.proofs.Had.{one_reply_law}
use Rattle.df_theory.proofs.histories.one_reply_an_op.Goals as goal

pub returns : goal.returns
returns c = one_reply_law
