use Rattle.df_theory.proofs.Bridge.{moments_law}
use Rattle.df_theory.proofs.device.steps_are_moments.Goals as goal

pub returns : goal.returns
returns c = moments_law
