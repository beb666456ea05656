-- A block that is shown as it is wanted is answered.
use Rattle.df_checkpoint.proofs.Unreadable.{damage_missed}
use Rattle.df_checkpoint.proofs.meaning.damage_is_missed.Goals as goal

pub returns : goal.returns
returns c = damage_missed
