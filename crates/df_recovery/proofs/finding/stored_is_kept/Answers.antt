-- The law is proved.
use Rattle.df_recovery.proofs.KeptReplies.{stored_kept}
use Rattle.df_recovery.proofs.finding.stored_is_kept.Goals as goal

pub returns : goal.returns
returns c = stored_kept
