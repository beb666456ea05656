-- The law is a lemma.
use Rattle.df_table.proofs.FoundTable.{found_is_table}
use Rattle.df_table.proofs.meaning.what_is_found_is_the_table.Goals as goal

pub returns : goal.returns
returns c = found_is_table
