-- The law is proved.
use Rattle.df_recovery.proofs.OpenedStates
use Rattle.df_recovery.proofs.finding.state_is_opened.Goals as goal

pub returns : goal.returns
returns c = OpenedStates.state_is_opened
