use Rattle.df_theory.proofs.Bridge.{safe_moments_law}
use Rattle.df_theory.proofs.device.format_is_moments.Goals as goal

pub returns : goal.returns
returns c = safe_moments_law
