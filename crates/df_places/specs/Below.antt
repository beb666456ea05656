-- What the contracts here and above cite of the crates below this one.
pub use Rattle.df_base.specs.Causes.{HasCause}
pub use Rattle.df_disk.specs.{Adds.{Adds}, Told.{Shows}}
pub use Rattle.df_layout.specs.Spans.{HasPlace, span_of}
pub use Rattle.df_format.specs.{Brings.{Brings}, Shown.{class_of, header_or_class, unit_in}, UnitLaws.{place_size}, Valid.{IsUnit}}
pub use Rattle.df_buffers.specs.{Below.{AreBytes, ObeysRules, Zone, for_body, greatest_size, own_place, sectors_end}, Rooms.{FillsRoom}}
pub use Rattle.df_theory.specs.{Device.{AreSteps}, Units.{AnyUnit, Place}}
pub use Rattle.df_units.specs.{Format.{format_of}, Meaning.{message_of, place_of, unit_of}}
