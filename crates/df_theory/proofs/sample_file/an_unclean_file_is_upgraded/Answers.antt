use Rattle.df_theory.proofs.UpgradeSample.{upgrade_sample_law}
use Rattle.df_theory.proofs.sample_file.an_unclean_file_is_upgraded.Goals as goal

pub returns : goal.returns
returns c = upgrade_sample_law
