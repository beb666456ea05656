use Rattle.df_quorum.proofs.Choices.{one_law}
use Rattle.df_quorum.proofs.choice_laws.one_is_chosen.Goals as goal

pub returns : goal.returns
returns c = one_law
