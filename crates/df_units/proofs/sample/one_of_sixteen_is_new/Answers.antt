use Rattle.df_units.proofs.Rows.{one_of_sixteen}
use Rattle.df_units.proofs.sample.one_of_sixteen_is_new.Goals as goal

pub returns : goal.returns
returns c = one_of_sixteen
