use Rattle.df_theory.proofs.Past.{stamp_law}
use Rattle.df_theory.proofs.histories.counters_stood_together.Goals as goal

pub returns : goal.returns
returns c = stamp_law
