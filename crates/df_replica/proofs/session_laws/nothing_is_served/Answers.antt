-- The law is the lemma.
use Rattle.df_replica.proofs.Sessions.{nothing_is_served}
use Rattle.df_replica.proofs.session_laws.nothing_is_served.Goals as goal

pub returns : goal.returns
returns c = nothing_is_served
