-- What the contracts here and above cite of the crates below this one.
pub use Rattle.df_base.specs.Causes.{HasCause}
pub use Rattle.df_disk.specs.{Adds.{Adds}, Told.{Shows}}
pub use Rattle.df_layout.specs.declared.layout.Layout.{Layout}
pub use Rattle.df_format.specs.{Rules.{IsSealed}, UnitLaws.{AreSixteen, headers_bytes}}
pub use Rattle.df_theory.specs.{Device.{AreSteps}, Units.{HeaderPlace}}
pub use Rattle.df_units.specs.{Bytes.{first_at}, Format.{format_of}, Puts.{AreHeaders}, Sample.{reserved_header}}
