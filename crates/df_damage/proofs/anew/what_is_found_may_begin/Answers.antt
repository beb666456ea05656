-- The law is proved.
use Rattle.df_damage.proofs.Started.{hurt_may_begin}
use Rattle.df_damage.proofs.anew.what_is_found_may_begin.Goals as goal

pub returns : goal.returns
returns c = hurt_may_begin
