use Rattle.df_copy.proofs.Lives.{copied_begins}
use Rattle.df_copy.proofs.taking.a_copied_file_begins.Goals as goal

pub returns : goal.returns
returns c = copied_begins
