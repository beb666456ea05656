use Rattle.df_model.proofs.Keeps.{sense_law}
use Rattle.df_model.proofs.machine.commands_keep_sense.Goals as goal

pub returns : goal.returns
returns c = sense_law
