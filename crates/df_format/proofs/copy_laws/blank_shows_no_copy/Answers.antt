use Rattle.df_format.proofs.CopyClasses.{blank_copy_none}
use Rattle.df_format.proofs.copy_laws.blank_shows_no_copy.Goals as goal

pub returns : goal.returns
returns c = blank_copy_none
