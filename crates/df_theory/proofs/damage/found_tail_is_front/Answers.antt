use Rattle.df_theory.proofs.Hurts.{tail_is_front_law}
use Rattle.df_theory.proofs.damage.found_tail_is_front.Goals as goal

pub returns : goal.returns
returns c = tail_is_front_law
