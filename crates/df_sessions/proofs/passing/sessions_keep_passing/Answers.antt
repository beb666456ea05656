-- The law is two lemmas.
use Rattle.df_sessions.proofs.Each.{passes_requested, passes_replied}
use Rattle.df_sessions.proofs.passing.sessions_keep_passing.Goals as goal

pub returns-clause-requested : goal.returns-clause-requested
returns-clause-requested c = passes_requested

pub returns-clause-replied : goal.returns-clause-replied
returns-clause-replied c = passes_replied
