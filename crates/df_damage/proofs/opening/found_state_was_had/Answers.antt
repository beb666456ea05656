use Rattle.df_damage.proofs.Opened.{found_was_had}
use Rattle.df_damage.proofs.opening.found_state_was_had.Goals as goal

pub returns : goal.returns
returns c = found_was_had
