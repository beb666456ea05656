use Rattle.df_script_model.proofs.Worked.{scrub_session}
use Rattle.df_script_model.proofs.sessions.a_damaged_file_is_scrubbed.Goals as goal

pub returns : goal.returns
returns c = scrub_session
