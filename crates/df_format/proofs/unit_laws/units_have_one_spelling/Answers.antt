use Rattle.df_format.proofs.Wholes.{one_unit}
use Rattle.df_format.proofs.unit_laws.units_have_one_spelling.Goals as goal

pub returns : goal.returns
returns c = one_unit
