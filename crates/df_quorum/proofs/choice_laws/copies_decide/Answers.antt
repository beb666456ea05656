use Rattle.df_quorum.proofs.Choices.{same_law}
use Rattle.df_quorum.proofs.choice_laws.copies_decide.Goals as goal

pub returns : goal.returns
returns c = same_law
