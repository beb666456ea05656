use Rattle.df_damage.proofs.Opened.{checkpoint_stays}
use Rattle.df_damage.proofs.opening.checkpoint_stays.Goals as goal

pub returns : goal.returns
returns c = checkpoint_stays
