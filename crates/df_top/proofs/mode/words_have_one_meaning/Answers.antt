-- The law is one lemma.
use Rattle.df_top.proofs.Modes.{one_mode}
use Rattle.df_top.proofs.mode.words_have_one_meaning.Goals as goal

pub returns : goal.returns
returns c = one_mode
