-- What the crates above cite: what a scanned table says of the image, and what an append leaves.
pub use Rattle.df_journal.proofs.{Scans.{class_shown, rings_shown}, Moments.{append_moments, append_steps, ends_appended, next_sector}}
-- ---- the op of a slot, and the header of a prepare in the header ring
pub use Rattle.{df_journal.proofs.{Ops.{one_op, op_of_slot}, Moments.{in_header_ring}}, df_group.proofs.Laws.{own_within}}
-- ---- a sync after what was told, and one element of a list after the other
pub use Rattle.df_journal.proofs.RingWrites.{drop_all, drop_from, sync_adds}
-- ---- a flush
pub use Rattle.df_journal.proofs.{GroupTables.{AreIn, group_kept}, GroupWrites.{stands_at}}
pub use Rattle.df_journal.proofs.GroupMoments.{GroupPuts, are_in, flush_are_steps, flush_puts, group_ends, length_of_units, length_messages}
