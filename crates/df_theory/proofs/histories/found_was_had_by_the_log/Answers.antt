use Rattle.df_theory.proofs.Hurts.{found_was_of_log_law}
use Rattle.df_theory.proofs.histories.found_was_had_by_the_log.Goals as goal

pub returns : goal.returns
returns c = found_was_of_log_law
