use Rattle.df_theory.proofs.Writes.{sync_law}
use Rattle.df_theory.proofs.writers.synced_log_rests.Goals as goal

pub returns : goal.returns
returns c = sync_law
