use Rattle.df_theory.proofs.Upgrades.{upgrade_law}
use Rattle.df_theory.proofs.upgrading.upgrade_keeps_the_state.Goals as goal

pub returns : goal.returns
returns c = upgrade_law
