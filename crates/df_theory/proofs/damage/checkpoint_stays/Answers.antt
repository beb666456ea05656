use Rattle.df_theory.proofs.Hurts.{checkpoint_stays_law}
use Rattle.df_theory.proofs.damage.checkpoint_stays.Goals as goal

pub returns : goal.returns
returns c = checkpoint_stays_law
