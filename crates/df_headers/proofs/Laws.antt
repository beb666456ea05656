-- What the proofs above cite of this crate's: tables of headers, and the sixteen of a sector.
pub use Rattle.df_headers.proofs.Tables.{reserved_table, sector_at, sector_has, set_cases, table_kept, table_written}
pub use Rattle.df_headers.proofs.Writes.{writes_are_steps}
