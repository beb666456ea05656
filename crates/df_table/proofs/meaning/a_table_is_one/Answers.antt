-- The laws are two lemmas.
use Rattle.df_table.proofs.Tables.{first_is_empty, table_is_one}
use Rattle.df_table.proofs.meaning.a_table_is_one.Goals as goal

pub returns : goal.returns
returns c = record { one = table_is_one; first = first_is_empty }
