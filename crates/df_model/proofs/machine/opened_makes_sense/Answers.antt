use Rattle.df_model.proofs.{Keeps.{opened_law}, Runs.{found_law}}
use Rattle.df_model.proofs.machine.opened_makes_sense.Goals as goal

pub returns-clause-opened : goal.returns-clause-opened
returns-clause-opened c = opened_law

pub returns-clause-found : goal.returns-clause-found
returns-clause-found c = found_law
