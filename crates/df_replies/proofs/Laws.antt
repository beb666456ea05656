-- What the crates above cite: what a scanned table of replies says of the image, and which replies are found stored.
pub use Rattle.df_replies.proofs.{Scanned.{scanned_shown}, Stored.{found_stored, stored_found}}
