-- What the contracts here and above cite of the crates below this one.
pub use Rattle.df_base.specs.{Causes.{HasCause, IsBlamed}, Log.{Sync}}
pub use Rattle.df_disk.specs.Adds.{Adds}
pub use Rattle.df_format.specs.{Copies.{own_copy}, Own.{place_in}, Super.{copy_bytes}}
pub use Rattle.df_quorum.specs.Quorum.{nothing}
pub use Rattle.df_theory.specs.CopyPuts.{update_steps}
pub use Rattle.df_units.specs.Puts.{put_copies}
