-- The law is proved.
use Rattle.df_lifetime.proofs.HurtLives.{life_may_be_hurt}
use Rattle.df_lifetime.proofs.hurt.a_life_may_be_hurt.Goals as goal

pub returns : goal.returns
returns c = life_may_be_hurt
