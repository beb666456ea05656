use Rattle.df_theory.proofs.Had.{found_was_law}
use Rattle.df_theory.proofs.histories.found_was_had.Goals as goal

pub returns : goal.returns
returns c = found_was_law
