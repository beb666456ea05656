-- What the crates above cite: an image that shows a copy may be taken as a file, and a history begins there; what a stop leaves is refused,
-- or shows the copy.
pub use Rattle.df_copy.proofs.{Lives.{copied_begins}, Stages.{left_or_shows}}
