use Rattle.df_theory.proofs.Upgrades.{raise_ends_law}
use Rattle.df_theory.proofs.upgrading.raising_ends_whole.Goals as goal

pub returns : goal.returns
returns c = raise_ends_law
