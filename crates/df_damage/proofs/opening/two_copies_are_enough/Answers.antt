use Rattle.df_damage.proofs.Opened.{two_copies_are_enough_as}
use Rattle.df_damage.proofs.opening.two_copies_are_enough.Goals as goal

pub returns : goal.returns
returns c = two_copies_are_enough_as
