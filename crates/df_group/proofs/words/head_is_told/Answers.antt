-- As the lemma says.
use Rattle.df_group.proofs.Heads.{head_law}
use Rattle.df_group.proofs.words.head_is_told.Goals as goal

pub returns : goal.returns
returns c = head_law
