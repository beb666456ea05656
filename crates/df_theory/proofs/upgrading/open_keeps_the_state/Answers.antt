use Rattle.df_theory.proofs.Upgrades.{open_law}
use Rattle.df_theory.proofs.upgrading.open_keeps_the_state.Goals as goal

pub returns : goal.returns
returns c = open_law
