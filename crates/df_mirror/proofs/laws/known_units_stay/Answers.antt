-- A known unit that is shown is shown at every moment.
use Rattle.df_mirror.proofs.{Runs.{run_keeps}, Stays.{known_stays}}
use Rattle.df_mirror.proofs.laws.known_units_stay.Goals as goal

pub returns-clause-mends : goal.returns-clause-mends
returns-clause-mends c = known_stays

pub returns-clause-run : goal.returns-clause-run
returns-clause-run c = run_keeps
