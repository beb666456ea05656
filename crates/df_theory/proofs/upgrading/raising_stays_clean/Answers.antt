use Rattle.df_theory.proofs.Upgrades.{raise_anew_law}
use Rattle.df_theory.proofs.upgrading.raising_stays_clean.Goals as goal

pub returns : goal.returns
returns c = raise_anew_law
