use Rattle.df_script_model.proofs.Filled.{long_trailer}
use Rattle.df_script_model.proofs.sessions.a_long_trailer.Goals as goal

pub returns : goal.returns
returns c = long_trailer
