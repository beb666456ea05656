-- The law is proved.
use Rattle.df_opening.proofs.NotRefused.{safe_is_not_refused}
use Rattle.df_opening.proofs.completeness.what_is_safe_is_not_refused.Goals as goal

pub returns : goal.returns
returns c = safe_is_not_refused
