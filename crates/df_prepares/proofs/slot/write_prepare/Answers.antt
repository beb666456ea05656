-- The put's steps with a sync after them.
use Rattle.df_prepares.proofs.slot.write_prepare.Goals as goal

pub returns-clause-steps : goal.returns-clause-steps
returns-clause-steps g c = (c.put_prepare.ensures.steps.0, tt)
