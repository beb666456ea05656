use Rattle.df_theory.proofs.Births.{format_law}
use Rattle.df_theory.proofs.making.format_begins.Goals as goal

pub returns : goal.returns
returns c = format_law
