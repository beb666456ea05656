use Rattle.df_pace.proofs.Computed.{full_ring, long_session}
use Rattle.df_pace.proofs.worked.a_long_session.Goals as goal

pub returns-clause-paced : goal.returns-clause-paced
returns-clause-paced c = long_session

pub returns-clause-alone : goal.returns-clause-alone
returns-clause-alone c = full_ring
