use Rattle.df_theory.proofs.KnownLaws.{first_version_law}
use Rattle.df_theory.proofs.knowing.first_version_names_no_more.Goals as goal

pub returns : goal.returns
returns c = first_version_law
