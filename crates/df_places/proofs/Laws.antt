-- What the proofs above cite: the sectors of a sound room bring its unit to its own place.
pub use Rattle.df_places.proofs.{Steps.{write_brings}, Rooms.{all_own}}
