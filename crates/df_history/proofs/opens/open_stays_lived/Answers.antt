use Rattle.df_history.proofs.Awakened.{open_lived_law}
use Rattle.df_history.proofs.opens.open_stays_lived.Goals as goal

pub returns : goal.returns
returns c = open_lived_law
