use Rattle.df_history.proofs.Passed.{passed_sample_law}
use Rattle.df_history.proofs.histories.a_survivor_is_passed_over.Goals as goal

pub returns : goal.returns
returns c = passed_sample_law
