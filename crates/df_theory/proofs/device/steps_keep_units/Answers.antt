use Rattle.df_theory.proofs.Bridge.{steps_join_law, unit_moments_law}
use Rattle.df_theory.proofs.device.steps_keep_units.Goals as goal

pub returns-clause-moments : goal.returns-clause-moments
returns-clause-moments c = unit_moments_law

pub returns-clause-join : goal.returns-clause-join
returns-clause-join c = steps_join_law
