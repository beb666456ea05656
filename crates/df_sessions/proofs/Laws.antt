-- What the proofs above cite of this crate's: where a client's session is found.
pub use Rattle.df_sessions.proofs.{Places.{IsFirst, first_place, no_gap}, Noted.{reply_unnoted, length_sessions, session_at}}
