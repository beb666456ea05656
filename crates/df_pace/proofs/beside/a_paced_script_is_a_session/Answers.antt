use Rattle.df_pace.proofs.{Idle.{answered_law, idle_law}, Sessions.{session_law}}
use Rattle.df_pace.proofs.beside.a_paced_script_is_a_session.Goals as goal

pub returns-clause-idle : goal.returns-clause-idle
returns-clause-idle c = idle_law

pub returns-clause-answered : goal.returns-clause-answered
returns-clause-answered c = answered_law

pub returns-clause-session : goal.returns-clause-session
returns-clause-session c = session_law
