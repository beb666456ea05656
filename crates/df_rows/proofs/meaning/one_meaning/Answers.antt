use Rattle.df_rows.proofs.Words.{one_said}
use Rattle.df_rows.proofs.meaning.one_meaning.Goals as goal

pub returns : goal.returns
returns c = one_said
