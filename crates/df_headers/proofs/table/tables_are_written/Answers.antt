-- As the lemmas say.
use Rattle.df_headers.proofs.Tables.{reserved_table, table_kept, table_written}
use Rattle.df_headers.proofs.table.tables_are_written.Goals as goal

pub returns-clause-sectors : goal.returns-clause-sectors
returns-clause-sectors c = table_written

pub returns-clause-kept : goal.returns-clause-kept
returns-clause-kept c = table_kept

pub returns-clause-reserved : goal.returns-clause-reserved
returns-clause-reserved c = reserved_table
