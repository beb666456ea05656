use Rattle.df_history.proofs.Founds.{found_lived_law}
use Rattle.df_history.proofs.histories.found_was_lived.Goals as goal

pub returns : goal.returns
returns c = found_lived_law
