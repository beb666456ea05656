use Rattle.df_rows.proofs.Entries.{one_row}
use Rattle.df_rows.proofs.meaning.one_row.Goals as goal

pub returns : goal.returns
returns c = one_row
