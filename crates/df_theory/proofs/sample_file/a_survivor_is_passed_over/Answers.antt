use Rattle.df_theory.proofs.Survivors.{survivor_sample_law}
use Rattle.df_theory.proofs.sample_file.a_survivor_is_passed_over.Goals as goal

pub returns : goal.returns
returns c = survivor_sample_law
