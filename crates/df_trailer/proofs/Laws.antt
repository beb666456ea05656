-- What the proofs above cite of this crate's: what a text says, what is refused of it, and how long it is.
pub use Rattle.df_trailer.proofs.{Codec.{codec, text_bytes}, Read.{IsSpelling, text_read}, Said.{kept_said}, Spelled.{read_again}}
pub use Rattle.df_trailer.proofs.{Stays.{refusal_is_fault, refusal_stays}, Sizes.{count_is, text_sized}}
