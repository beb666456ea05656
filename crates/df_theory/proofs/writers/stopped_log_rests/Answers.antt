use Rattle.df_theory.proofs.Writes.{stop_law}
use Rattle.df_theory.proofs.writers.stopped_log_rests.Goals as goal

pub returns : goal.returns
returns c = stop_law
