-- What the crates above cite of these proofs: the laws, as lemmas.
pub use Rattle.df_pace.proofs.Beats.{fewer_due, line_counts, nothing_due, piece_counts, piece_due, starts_idle, whole_due}
pub use Rattle.df_pace.proofs.Idle.{idle_law}
