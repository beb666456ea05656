-- What the proofs above cite of this crate's: what follows from a vote of two, over any four places.
pub use Rattle.df_quorum.proofs.Choices.{agree_at, one_law, same_content, same_law, two_law, chosen_above}
