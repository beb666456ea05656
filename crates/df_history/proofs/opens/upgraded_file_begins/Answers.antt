use Rattle.df_history.proofs.Upgraded.{upgraded_law}
use Rattle.df_history.proofs.opens.upgraded_file_begins.Goals as goal

pub returns : goal.returns
returns c = upgraded_law
