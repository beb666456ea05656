-- What the crates above cite: the laws of histories, as lemmas.
-- ---- what an open finds
pub use Rattle.df_history.proofs.Since.{choice_stays_law, found_since_law, synced_settled}
-- ---- a history goes on
pub use Rattle.df_history.proofs.Moments.{begins_law, boot_lived_law, first_grown_law, first_lived_law, rest_lived_law}
pub use Rattle.df_history.proofs.{Mendings.{mend_lived_law}, Awakened.{grown_lived_law, open_lived_law, raise_lived_law, safe_lived_law}}
pub use Rattle.df_history.proofs.{Upgraded.{stopped_upgrade_law, upgraded_law}, Joins.{images_either}, Thrice.{history_pools}}
