use Rattle.df_theory.proofs.Births.{blank_law}
use Rattle.df_theory.proofs.making.blank_is_safe.Goals as goal

pub returns : goal.returns
returns c = blank_law
