-- What the contracts here and above cite of the crates below this one.
pub use Rattle.df_base.specs.Causes.{HasCause}
pub use Rattle.df_model.specs.{After.{newest}, Reading.{with_finding}, Work.{first_tour}}
