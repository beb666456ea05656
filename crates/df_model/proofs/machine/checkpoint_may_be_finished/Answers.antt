use Rattle.df_model.proofs.{Begins.{begin_exact_law}, Finishes.{finish_exact_law, finish_may_law}}
use Rattle.df_model.proofs.machine.checkpoint_may_be_finished.Goals as goal

pub returns-clause-may : goal.returns-clause-may
returns-clause-may c = finish_may_law

pub returns-clause-exact : goal.returns-clause-exact
returns-clause-exact c = finish_exact_law

pub returns-clause-begin : goal.returns-clause-begin
returns-clause-begin c = begin_exact_law
