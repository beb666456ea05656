use Rattle.df_theory.proofs.Stops.{stop_sample_law}
use Rattle.df_theory.proofs.sample_file.a_stop_is_survived.Goals as goal

pub returns : goal.returns
returns c = stop_sample_law
