use Rattle.df_damage.proofs.Opened.{headers_may_be_hurt_as}
use Rattle.df_damage.proofs.opening.headers_are_not_needed.Goals as goal

pub returns : goal.returns
returns c = headers_may_be_hurt_as
