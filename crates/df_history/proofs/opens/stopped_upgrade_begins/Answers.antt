use Rattle.df_history.proofs.Upgraded.{stopped_upgrade_law}
use Rattle.df_history.proofs.opens.stopped_upgrade_begins.Goals as goal

pub returns : goal.returns
returns c = stopped_upgrade_law
