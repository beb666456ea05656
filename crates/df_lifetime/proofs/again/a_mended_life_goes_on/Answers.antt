-- The law is proved.
use Rattle.df_lifetime.proofs.MendedLives.{mended_life_goes_on}
use Rattle.df_lifetime.proofs.again.a_mended_life_goes_on.Goals as goal

pub returns : goal.returns
returns c = mended_life_goes_on
