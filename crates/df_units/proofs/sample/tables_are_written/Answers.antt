use Rattle.df_units.proofs.Rows.{reserved_unit, table_written}
use Rattle.df_units.proofs.sample.tables_are_written.Goals as goal

pub returns-clause-table : goal.returns-clause-table
returns-clause-table c = table_written

pub returns-clause-reserved : goal.returns-clause-reserved
returns-clause-reserved c = reserved_unit
