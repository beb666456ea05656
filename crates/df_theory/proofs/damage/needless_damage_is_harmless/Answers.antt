use Rattle.df_theory.proofs.Hurts.{hurt_law}
use Rattle.df_theory.proofs.damage.needless_damage_is_harmless.Goals as goal

pub returns : goal.returns
returns c = hurt_law
