use Rattle.df_theory.proofs.KnownLaws.{one_known_law}
use Rattle.df_theory.proofs.knowing.one_known_op_is_named.Goals as goal

pub returns : goal.returns
returns c = one_known_law
