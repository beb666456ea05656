use Rattle.df_script_model.proofs.Worked.{first_session}
use Rattle.df_script_model.proofs.sessions.a_first_session.Goals as goal

pub returns : goal.returns
returns c = first_session
