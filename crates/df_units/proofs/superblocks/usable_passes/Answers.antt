use Rattle.df_units.proofs.{Chosen.{shown_checks}, Usable.{passing_is_usable, usable_passes}}
use Rattle.df_units.proofs.superblocks.usable_passes.Goals as goal

pub returns-clause-passes : goal.returns-clause-passes
returns-clause-passes c = usable_passes

pub returns-clause-checks : goal.returns-clause-checks
returns-clause-checks c = shown_checks

pub returns-clause-usable : goal.returns-clause-usable
returns-clause-usable c = passing_is_usable
