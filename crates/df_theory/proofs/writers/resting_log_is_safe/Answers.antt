use Rattle.df_theory.proofs.Writes.{rests_law}
use Rattle.df_theory.proofs.writers.resting_log_is_safe.Goals as goal

pub returns : goal.returns
returns c = rests_law
