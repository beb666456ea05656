use Rattle.df_quorum.proofs.Choices.{three_law}
use Rattle.df_quorum.proofs.choice_laws.three_equal_are_chosen.Goals as goal

pub returns : goal.returns
returns c = three_law
