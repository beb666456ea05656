use Rattle.df_history.proofs.Moments.{begins_law}
use Rattle.df_history.proofs.opens.history_goes_on.Goals as goal

pub returns : goal.returns
returns c = begins_law
