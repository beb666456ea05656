use Rattle.df_format.proofs.CopySpelled.{one_copy_spelling}
use Rattle.df_format.proofs.copy_laws.copies_have_one_spelling.Goals as goal

pub returns : goal.returns
returns c = one_copy_spelling
