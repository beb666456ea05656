use Rattle.df_script_model.proofs.Worked.{full_grid}
use Rattle.df_script_model.proofs.sessions.a_full_grid.Goals as goal

pub returns : goal.returns
returns c = full_grid
