use Rattle.df_theory.proofs.Births.{making_sync_law}
use Rattle.df_theory.proofs.making.sync_keeps_making.Goals as goal

pub returns : goal.returns
returns c = making_sync_law
