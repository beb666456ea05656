use Rattle.df_theory.proofs.KnownLaws.{known_ends_law}
use Rattle.df_theory.proofs.knowing.known_prepares_end_at_the_pin.Goals as goal

pub returns : goal.returns
returns c = known_ends_law
