use Rattle.df_model.proofs.Raised.{raised_kept_law}
use Rattle.df_model.proofs.raising.raised_file_is_kept.Goals as goal

pub returns : goal.returns
returns c = raised_kept_law
