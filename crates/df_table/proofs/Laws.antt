-- What the proofs above cite of this crate: what is left of a file that was in order with a table, by calls that keep it and by others;
-- that a run's calls were made on what was found; and what an opening finds.
pub use Rattle.df_table.proofs.Coming.{Has, KeptOn, Order, behind_barrier, cut_order, each_order, ends_order, finds, here, is_shown, kept_anew, kept_on, may, mends_order, order_as, stopped, synced, view_has}
pub use Rattle.df_table.proofs.{Finding.{found_own}, FoundTable.{found_is_table}, Leaving.{leaving_keeps_table, were_since}}
pub use Rattle.df_table.proofs.{Lasting.{none_taken}, OneFile.{found_of, serves_finds}, Owned.{OwnView}, Sessioned.{made_on_found}}
pub use Rattle.df_table.proofs.{Started.{shown_there, stands_shown}, Tables.{OneBlock, first_is_empty, one_table_by}}
pub use Rattle.df_table.proofs.Written.{bodies_as, table_as, table_seen}
