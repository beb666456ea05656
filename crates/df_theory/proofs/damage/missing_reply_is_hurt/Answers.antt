use Rattle.df_theory.proofs.Hurts.{reply_is_hurt_law}
use Rattle.df_theory.proofs.damage.missing_reply_is_hurt.Goals as goal

pub returns : goal.returns
returns c = reply_is_hurt_law
