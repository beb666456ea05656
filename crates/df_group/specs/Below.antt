-- What the contracts here cite of the crates below this one.
pub use Rattle.df_units.specs.Meaning.{header_of, number_of, number_or}
pub use Rattle.df_sessions.specs.Requests.{sessions_of}
pub use Rattle.df_theory.specs.{GroupLaws.{GroupRuleLaw, LostLaw}, Tails.{BindsHead, Fits, FitsGroup}, Sessions.{MayAsk}}
