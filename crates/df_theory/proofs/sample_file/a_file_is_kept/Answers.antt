use Rattle.df_theory.proofs.SampleEnds.{sample_law}
use Rattle.df_theory.proofs.sample_file.a_file_is_kept.Goals as goal

pub returns : goal.returns
returns c = sample_law
