-- What a scan of a file gives, as types: the crates above have them, and what an open finds, through this crate.
pub use Rattle.df_recovery.specs.{declared.finding.Traces.{Traces}, declared.scanned.Scanned.{Scanned}, declared.surveying.Surveyed.{Surveyed}}
