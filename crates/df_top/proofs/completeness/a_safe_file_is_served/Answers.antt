-- The laws are proved.
use Rattle.df_top.proofs.SafelyServed.{safe_is_run, safe_is_served}
use Rattle.df_top.proofs.completeness.a_safe_file_is_served.Goals as goal

pub returns-clause-runs : goal.returns-clause-runs
returns-clause-runs c = safe_is_run

pub returns-clause-serves : goal.returns-clause-serves
returns-clause-serves c = safe_is_served
