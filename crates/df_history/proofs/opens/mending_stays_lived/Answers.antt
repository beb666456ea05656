use Rattle.df_history.proofs.Mendings.{mend_lived_law}
use Rattle.df_history.proofs.opens.mending_stays_lived.Goals as goal

pub returns : goal.returns
returns c = mend_lived_law
