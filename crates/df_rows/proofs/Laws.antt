-- What the proofs above cite of this crate's: blocks are one table, a body is one list of rows and one command, a table of as many rows as
-- a layout allows has room, and a
-- map answers two lists of lines as one; and rows that fit stay such as a table changes.
pub use Rattle.df_rows.proofs.{Taken.{blocks_are_table, one_body, one_table}, Bodies.{in_turn, one_command}, Counts.{some_rows, tables_fit}}
pub use Rattle.df_rows.proofs.{Viewed.{no_entries}, Told.{accepted_more, commands_more, text_more}}
pub use Rattle.df_rows.proofs.Fitting.{AreRowsFit, command_fits, none_fits, rows_fit}
