use Rattle.df_theory.proofs.Headline.{barrier_law}
use Rattle.df_theory.proofs.writers.barrier_begins.Goals as goal

pub returns : goal.returns
returns c = barrier_law
