use Rattle.df_theory.proofs.Bridge.{new_disk_law}
use Rattle.df_theory.proofs.device.new_disk_is_blank.Goals as goal

pub returns : goal.returns
returns c = new_disk_law
