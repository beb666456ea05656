use Rattle.df_damage.proofs.Answered.{answer_is_of_hurt_as}
use Rattle.df_damage.proofs.opening.answer_is_of_hurt.Goals as goal

pub returns : goal.returns
returns c = answer_is_of_hurt_as
