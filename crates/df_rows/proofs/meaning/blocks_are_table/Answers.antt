use Rattle.df_rows.proofs.Taken.{blocks_are_table}
use Rattle.df_rows.proofs.meaning.blocks_are_table.Goals as goal

pub returns : goal.returns
returns c = blocks_are_table
