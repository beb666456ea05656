-- What the proofs above cite of this crate's: how a run ends well, and that a mended file is opened.
pub use Rattle.df_mirror.proofs.OpenedRuns.{ends_well, mended_is_opened}
