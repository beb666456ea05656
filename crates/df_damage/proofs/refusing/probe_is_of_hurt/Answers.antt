use Rattle.df_damage.proofs.Refused.{probe_is_of_hurt_as}
use Rattle.df_damage.proofs.refusing.probe_is_of_hurt.Goals as goal

pub returns : goal.returns
returns c = probe_is_of_hurt_as
