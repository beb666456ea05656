-- The law is the lemma.
use Rattle.df_replica.proofs.Sessions.{answered_is_there}
use Rattle.df_replica.proofs.session_laws.what_was_answered_is_there.Goals as goal

pub returns : goal.returns
returns c = answered_is_there
