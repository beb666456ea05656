use Rattle.df_history.proofs.Since.{choice_stays_law}
use Rattle.df_history.proofs.opens.choice_stays.Goals as goal

pub returns : goal.returns
returns c = choice_stays_law
