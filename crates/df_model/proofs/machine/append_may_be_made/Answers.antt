use Rattle.df_model.proofs.{Appends.{append_may_law}, Exact.{append_exact_law}}
use Rattle.df_model.proofs.machine.append_may_be_made.Goals as goal

pub returns-clause-may : goal.returns-clause-may
returns-clause-may c = append_may_law

pub returns-clause-exact : goal.returns-clause-exact
returns-clause-exact c = append_exact_law
