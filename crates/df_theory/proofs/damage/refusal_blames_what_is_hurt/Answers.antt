use Rattle.df_theory.proofs.Blames.{blame_law}
use Rattle.df_theory.proofs.damage.refusal_blames_what_is_hurt.Goals as goal

pub returns : goal.returns
returns c = blame_law
