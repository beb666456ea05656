use Rattle.df_model.proofs.Keeps.{next_law}
use Rattle.df_model.proofs.machine.commands_go_on.Goals as goal

pub returns : goal.returns
returns c = next_law
