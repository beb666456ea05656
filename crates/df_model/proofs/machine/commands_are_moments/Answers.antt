use Rattle.df_model.proofs.Disks.{disk_command_law}
use Rattle.df_model.proofs.machine.commands_are_moments.Goals as goal

pub returns : goal.returns
returns c = disk_command_law
