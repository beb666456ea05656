use Rattle.df_units.proofs.{Parts.{call_good, call_good_units, call_safe, call_whole, call_ends}, Within.{steps_within}}
use Rattle.df_units.proofs.calls.calls_are_steps.Goals as goal

pub returns-clause-good : goal.returns-clause-good
returns-clause-good c = call_good

pub returns-clause-units : goal.returns-clause-units
returns-clause-units c = call_good_units

pub returns-clause-safe : goal.returns-clause-safe
returns-clause-safe c = call_safe

pub returns-clause-whole : goal.returns-clause-whole
returns-clause-whole c = call_whole

pub returns-clause-ends : goal.returns-clause-ends
returns-clause-ends c = call_ends

pub returns-clause-within : goal.returns-clause-within
returns-clause-within c = steps_within
