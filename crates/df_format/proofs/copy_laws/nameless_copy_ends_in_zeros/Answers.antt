use Rattle.df_format.proofs.CopySpelled.{named_zeros}
use Rattle.df_format.proofs.copy_laws.nameless_copy_ends_in_zeros.Goals as goal

pub returns : goal.returns
returns c = named_zeros
