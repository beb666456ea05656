-- The law is proved.
use Rattle.df_lifetime.proofs.Fronts.{front_is_written}
use Rattle.df_lifetime.proofs.printed.a_front_is_written.Goals as goal

pub returns : goal.returns
returns c = front_is_written
