-- What the proofs above cite of this crate's: what an open finds, images that agree in what calls read, and what the word `upgrade` leaves.
pub use Rattle.{df_session.proofs.Laws.{unit_spared}, df_top.proofs.{OneReport.{summary_same}, Upgrades.{second_is_left}}}
-- ---- damage before any number of opens
pub use Rattle.df_top.proofs.Reopens.{calls_live, stops_live}
