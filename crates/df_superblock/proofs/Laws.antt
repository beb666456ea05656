-- What the crates above cite: the slots of the four places, and the sectors that they were read from.
pub use Rattle.df_superblock.proofs.{BlankSlots.{blank_shown, shown_blank, unformatted}, Stepped.{repair_from, update_is_steps}}
-- ---- what a write of a copy leaves of the others
pub use Rattle.df_superblock.proofs.{Mends.{Spares, member_spared, other_written, written_shows}, Puts.{copy_put}, Sights.{seen_apart}}
pub use Rattle.df_superblock.proofs.Written.{ends_equal}
