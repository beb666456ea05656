use Rattle.df_script_model.proofs.Filled.{fill_law}
use Rattle.df_script_model.proofs.sessions.lines_fill_the_grid.Goals as goal

pub returns : goal.returns
returns c = fill_law
