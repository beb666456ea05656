-- What a survey is seen as, and the numbers of a state, passed on.
pub use Rattle.df_opening.specs.{Below.{summary_of}, Survey.{Survey}}
