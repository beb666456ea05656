use Rattle.df_copy.proofs.Sampled.{copy_sample_law}
use Rattle.df_copy.proofs.taking.a_damaged_copy_is_opened.Goals as goal

pub returns : goal.returns
returns c = copy_sample_law
