use Rattle.df_theory.proofs.PutOne.{put_one_law}
use Rattle.df_theory.proofs.writers.one_unit_is_put.Goals as goal

pub returns : goal.returns
returns c = put_one_law
