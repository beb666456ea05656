-- What the proofs above cite of this crate's: texts that were written one after the other are written as one text.
pub use Rattle.df_inspect.proofs.Written.{appends_none, prints_more, prints_front, prints_same}
