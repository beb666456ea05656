use Rattle.df_theory.proofs.Hurts.{lost_is_hurt_law}
use Rattle.df_theory.proofs.damage.lost_slot_is_hurt.Goals as goal

pub returns : goal.returns
returns c = lost_is_hurt_law
