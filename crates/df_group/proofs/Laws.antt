-- What the crates above cite: a walk along prepares that are taken, one after the other.
pub use Rattle.df_group.proofs.Walks.{IsAhead, IsWalk, behind, either_kept, end_at, fits_behind, walk_begins, walk_on}
-- ---- lists that go on, and groups in them
pub use Rattle.df_group.proofs.Grouping.{chain_end, first_in, fits_same, groups_join, groups_split, in_last, in_some}
-- ---- the client's session, and what binds the head
pub use Rattle.df_group.proofs.{Asks.{asks_within}, Cutting.{binds, own_within, within_own}}
