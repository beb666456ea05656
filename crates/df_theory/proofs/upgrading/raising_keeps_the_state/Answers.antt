use Rattle.df_theory.proofs.Upgrades.{raise_law}
use Rattle.df_theory.proofs.upgrading.raising_keeps_the_state.Goals as goal

pub returns : goal.returns
returns c = raise_law
