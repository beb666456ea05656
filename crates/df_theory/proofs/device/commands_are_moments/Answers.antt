use Rattle.df_theory.proofs.Bridge.{run_moments_law}
use Rattle.df_theory.proofs.device.commands_are_moments.Goals as goal

pub returns : goal.returns
returns c = run_moments_law
