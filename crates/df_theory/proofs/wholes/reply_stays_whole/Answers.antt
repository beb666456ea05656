use Rattle.df_theory.proofs.Keeps.{whole_reply_law}
use Rattle.df_theory.proofs.wholes.reply_stays_whole.Goals as goal

pub returns : goal.returns
returns c = whole_reply_law
