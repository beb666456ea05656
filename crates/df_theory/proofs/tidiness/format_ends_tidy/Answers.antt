use Rattle.df_theory.proofs.TidyMakes.{tidy_format_law}
use Rattle.df_theory.proofs.tidiness.format_ends_tidy.Goals as goal

pub returns : goal.returns
returns c = tidy_format_law
