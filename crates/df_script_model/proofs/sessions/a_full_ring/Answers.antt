use Rattle.df_script_model.proofs.Worked.{ring_session}
use Rattle.df_script_model.proofs.sessions.a_full_ring.Goals as goal

pub returns : goal.returns
returns c = ring_session
