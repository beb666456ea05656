use Rattle.df_quorum.proofs.Choices.{two_law}
use Rattle.df_quorum.proofs.choice_laws.two_newest_are_chosen.Goals as goal

pub returns : goal.returns
returns c = two_law
