use Rattle.df_theory.proofs.HalfUpdates.{update_sample_law}
use Rattle.df_theory.proofs.sample_file.a_stopped_update_is_mended.Goals as goal

pub returns : goal.returns
returns c = update_sample_law
