use Rattle.df_script_model.proofs.Worked.{block_session}
use Rattle.df_script_model.proofs.sessions.blocks_are_given_out_again.Goals as goal

pub returns : goal.returns
returns c = block_session
