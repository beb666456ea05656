use Rattle.df_theory.proofs.Births.{second_copy_law}
use Rattle.df_theory.proofs.making.second_copy_begins.Goals as goal

pub returns : goal.returns
returns c = second_copy_law
