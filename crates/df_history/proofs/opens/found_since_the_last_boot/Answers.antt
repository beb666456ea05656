use Rattle.df_history.proofs.Since.{found_since_law}
use Rattle.df_history.proofs.opens.found_since_the_last_boot.Goals as goal

pub returns : goal.returns
returns c = found_since_law
