use Rattle.df_theory.proofs.Hurts.{missing_is_hurt_law}
use Rattle.df_theory.proofs.damage.missing_prepare_is_hurt.Goals as goal

pub returns : goal.returns
returns c = missing_is_hurt_law
