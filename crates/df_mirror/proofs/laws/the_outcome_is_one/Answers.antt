-- What a run does is one outcome of what both files show.
use Rattle.df_mirror.proofs.Outcomes.{outcome_is_one, run_stops_before}
use Rattle.df_mirror.proofs.laws.the_outcome_is_one.Goals as goal

pub returns-clause-whole : goal.returns-clause-whole
returns-clause-whole c = outcome_is_one

pub returns-clause-any : goal.returns-clause-any
returns-clause-any c = run_stops_before
