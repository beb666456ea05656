use Rattle.df_theory.proofs.KnownLaws.{found_known_law}
use Rattle.df_theory.proofs.knowing.found_is_known.Goals as goal

pub returns : goal.returns
returns c = found_known_law
