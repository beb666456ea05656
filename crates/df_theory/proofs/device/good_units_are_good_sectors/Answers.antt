use Rattle.df_theory.proofs.Bridge.{disk_law}
use Rattle.df_theory.proofs.device.good_units_are_good_sectors.Goals as goal

pub returns : goal.returns
returns c = disk_law
