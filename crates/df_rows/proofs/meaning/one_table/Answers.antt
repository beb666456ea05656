use Rattle.df_rows.proofs.Taken.{one_table}
use Rattle.df_rows.proofs.meaning.one_table.Goals as goal

pub returns : goal.returns
returns c = one_table
