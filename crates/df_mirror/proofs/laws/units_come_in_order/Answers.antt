-- Units are mended in the order of their kinds.
use Rattle.df_mirror.proofs.Joined.{units_come_in_order}
use Rattle.df_mirror.proofs.laws.units_come_in_order.Goals as goal

pub returns : goal.returns
returns c = units_come_in_order
