use Rattle.df_history.proofs.Awakened.{awake_lived_law}
use Rattle.df_history.proofs.opens.commands_stay_lived.Goals as goal

pub returns : goal.returns
returns c = awake_lived_law
