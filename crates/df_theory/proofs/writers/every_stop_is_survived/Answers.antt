use Rattle.df_theory.proofs.Headline.{headline_law}
use Rattle.df_theory.proofs.writers.every_stop_is_survived.Goals as goal

pub returns : goal.returns
returns c = headline_law
