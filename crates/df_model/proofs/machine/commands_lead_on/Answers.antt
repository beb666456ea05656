use Rattle.df_model.proofs.Does.{command_law}
use Rattle.df_model.proofs.machine.commands_lead_on.Goals as goal

pub returns : goal.returns
returns c = command_law
