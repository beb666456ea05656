use Rattle.df_damage.proofs.NotRefused.{found_is_not_refused_as}
use Rattle.df_damage.proofs.refusing.found_is_not_refused.Goals as goal

pub returns : goal.returns
returns c = found_is_not_refused_as
