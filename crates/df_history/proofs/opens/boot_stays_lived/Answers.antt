use Rattle.df_history.proofs.Moments.{boot_lived_law}
use Rattle.df_history.proofs.opens.boot_stays_lived.Goals as goal

pub returns : goal.returns
returns c = boot_lived_law
