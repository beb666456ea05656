use Rattle.df_theory.proofs.Tidy.{tidy_reply_law}
use Rattle.df_theory.proofs.tidiness.reply_leads_tidily.Goals as goal

pub returns : goal.returns
returns c = tidy_reply_law
