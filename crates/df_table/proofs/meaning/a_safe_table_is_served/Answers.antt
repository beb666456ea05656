-- The law is a lemma.
use Rattle.df_table.proofs.SafelyRun.{safe_is_run}
use Rattle.df_table.proofs.meaning.a_safe_table_is_served.Goals as goal

pub returns : goal.returns
returns c = safe_is_run
