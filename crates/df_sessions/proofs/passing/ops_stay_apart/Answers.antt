-- The law is two lemmas.
use Rattle.df_sessions.proofs.Each.{ops_requested, ops_replied}
use Rattle.df_sessions.proofs.passing.ops_stay_apart.Goals as goal

pub returns-clause-requested : goal.returns-clause-requested
returns-clause-requested c = ops_requested

pub returns-clause-replied : goal.returns-clause-replied
returns-clause-replied c = ops_replied
