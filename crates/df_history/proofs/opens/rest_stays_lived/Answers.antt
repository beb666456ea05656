use Rattle.df_history.proofs.Moments.{rest_lived_law}
use Rattle.df_history.proofs.opens.rest_stays_lived.Goals as goal

pub returns : goal.returns
returns c = rest_lived_law
