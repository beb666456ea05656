use Rattle.df_format.proofs.CopyShown.{same_copy}
use Rattle.df_format.proofs.copy_laws.same_sector_same_copy.Goals as goal

pub returns : goal.returns
returns c = same_copy
