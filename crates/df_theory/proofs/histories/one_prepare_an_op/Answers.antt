use Rattle.df_theory.proofs.Past.{one_prepare_law}
use Rattle.df_theory.proofs.histories.one_prepare_an_op.Goals as goal

pub returns : goal.returns
returns c = one_prepare_law
