-- The law is proved.
use Rattle.df_session.proofs.Sums.{units_have_sums}
use Rattle.df_session.proofs.checksums.units_have_their_checksums.Goals as goal

pub returns : goal.returns
returns c = units_have_sums
