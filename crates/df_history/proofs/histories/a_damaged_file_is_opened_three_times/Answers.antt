use Rattle.df_history.proofs.Thrice.{thrice_sample_law}
use Rattle.df_history.proofs.histories.a_damaged_file_is_opened_three_times.Goals as goal

pub returns : goal.returns
returns c = thrice_sample_law
