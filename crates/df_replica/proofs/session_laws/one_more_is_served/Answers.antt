-- The law is the lemma.
use Rattle.df_replica.proofs.Sessions.{one_more_is_served}
use Rattle.df_replica.proofs.session_laws.one_more_is_served.Goals as goal

pub returns : goal.returns
returns c = one_more_is_served
