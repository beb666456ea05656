-- What the contracts here and above cite of the crates below this one.
pub use Rattle.df_places.specs.Below.{Adds, AreSteps, Brings, HasCause, format_of, sectors_end}
