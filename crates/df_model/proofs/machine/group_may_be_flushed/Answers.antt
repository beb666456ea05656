use Rattle.df_model.proofs.{Flushing.{flush_may_law}, Exact.{stage_exact_law}}
use Rattle.df_model.proofs.machine.group_may_be_flushed.Goals as goal

pub returns-clause-may : goal.returns-clause-may
returns-clause-may c = flush_may_law

pub returns-clause-exact : goal.returns-clause-exact
returns-clause-exact c = stage_exact_law
