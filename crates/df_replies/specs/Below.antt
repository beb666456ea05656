-- What the contracts here and above cite of the crates below this one.
pub use Rattle.df_layout.specs.declared.damage.Class.TheVariants.{Blank}
pub use Rattle.df_format.specs.Copies.{content_with}
pub use Rattle.df_theory.specs.{Found.{IsReplies}, Tails.{last_mark}, Units.{Content, Message, Units}}
pub use Rattle.df_units.specs.Meaning.{content_of, number_of}
pub use Rattle.df_places.specs.Below.{Adds, AreSteps, FillsRoom, HasCause, Shows, format_of}
