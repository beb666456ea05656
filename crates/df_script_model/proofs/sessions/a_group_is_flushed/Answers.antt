use Rattle.df_script_model.proofs.Worked.{full_staged, group_session}
use Rattle.df_script_model.proofs.sessions.a_group_is_flushed.Goals as goal

pub returns-clause-session : goal.returns-clause-session
returns-clause-session c = group_session

pub returns-clause-full : goal.returns-clause-full
returns-clause-full c = full_staged
