use Rattle.df_theory.proofs.Bridge.{safe_disk_law}
use Rattle.df_theory.proofs.device.safe_units_are_safe_sectors.Goals as goal

pub returns : goal.returns
returns c = safe_disk_law
