use Rattle.df_units.proofs.Formats.{new_is_making}
use Rattle.df_units.proofs.making.new_disk_is_making.Goals as goal

pub returns : goal.returns
returns c = new_is_making
