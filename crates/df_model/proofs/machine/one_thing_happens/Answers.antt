use Rattle.df_model.proofs.OneThing.{one_thing_law}
use Rattle.df_model.proofs.machine.one_thing_happens.Goals as goal

pub returns : goal.returns
returns c = one_thing_law
