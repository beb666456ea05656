use Rattle.df_history.proofs.Moments.{first_grown_law, first_lived_law}
use Rattle.df_history.proofs.opens.first_log_is_lived.Goals as goal

pub returns-clause-grown : goal.returns-clause-grown
returns-clause-grown c = first_grown_law

pub returns-clause-safe : goal.returns-clause-safe
returns-clause-safe c = first_lived_law
