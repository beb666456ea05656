-- What the proofs above cite of this crate's: what a refusal of a trailer says in the theory's words, and that there is one.
pub use Rattle.df_checkpoint.proofs.Unreadable.{broken_unreadable, damage_missed, its_text, referenced_unreadable, some_chain, text_unreadable, untracked_unreadable}
pub use Rattle.df_checkpoint.proofs.{Missed.{broken_shown, whole_shown, one_block}, OneTest.{one_test}}
pub use Rattle.df_checkpoint.proofs.Tracking.{sessions_back, has_is, has_not, complete_gives, pending_of}
