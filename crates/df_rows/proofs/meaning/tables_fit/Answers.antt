use Rattle.df_rows.proofs.Counts.{tables_fit}
use Rattle.df_rows.proofs.meaning.tables_fit.Goals as goal

pub returns : goal.returns
returns c = tables_fit
