use Rattle.df_theory.proofs.TidyDisk.{tidy_moments_law, standing_moments_law}
use Rattle.df_theory.proofs.device.tidy_command_is_moments.Goals as goal

pub returns-clause-tidy : goal.returns-clause-tidy
returns-clause-tidy c = tidy_moments_law

pub returns-clause-standing : goal.returns-clause-standing
returns-clause-standing c = standing_moments_law
