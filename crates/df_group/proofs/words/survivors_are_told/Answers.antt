-- As the lemma says.
use Rattle.df_group.proofs.Heads.{survivor_law}
use Rattle.df_group.proofs.words.survivors_are_told.Goals as goal

pub returns : goal.returns
returns c = survivor_law
