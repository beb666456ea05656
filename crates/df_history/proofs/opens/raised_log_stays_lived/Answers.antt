use Rattle.df_history.proofs.Awakened.{grown_lived_law, raise_lived_law, safe_lived_law}
use Rattle.df_history.proofs.opens.raised_log_stays_lived.Goals as goal

pub returns-clause-raised : goal.returns-clause-raised
returns-clause-raised c = raise_lived_law

pub returns-clause-grown : goal.returns-clause-grown
returns-clause-grown c = grown_lived_law

pub returns-clause-safe : goal.returns-clause-safe
returns-clause-safe c = safe_lived_law
