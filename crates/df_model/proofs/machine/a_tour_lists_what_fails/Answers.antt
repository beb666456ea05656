use Rattle.df_model.proofs.{Fails.{failing_law}, Tours.{tour_law}}
use Rattle.df_model.proofs.machine.a_tour_lists_what_fails.Goals as goal

pub returns-clause-tour : goal.returns-clause-tour
returns-clause-tour c = tour_law

pub returns-clause-failing : goal.returns-clause-failing
returns-clause-failing c = failing_law
