-- As the lemma says.
use Rattle.df_replies.proofs.Scanned.{scanned_shown}
use Rattle.df_replies.proofs.shown.scanned_replies_are_shown.Goals as goal

pub returns : goal.returns
returns c = scanned_shown
