-- The law is the lemma.
use Rattle.df_replica.proofs.Sessions.{fault_stops_them}
use Rattle.df_replica.proofs.session_laws.a_fault_stops_them.Goals as goal

pub returns : goal.returns
returns c = fault_stops_them
