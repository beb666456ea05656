-- Mends go on after others.
use Rattle.df_mirror.proofs.Joined.{mends_go_on}
use Rattle.df_mirror.proofs.laws.mends_go_on.Goals as goal

pub returns : goal.returns
returns c = mends_go_on
