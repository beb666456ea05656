-- The laws are proved.
use Rattle.df_opening.proofs.Followed.{begun_may_open, faulted_may_open, stopped_may_open, tidy_may_open}
use Rattle.df_opening.proofs.following.what_is_left_may_be_opened.Goals as goal

pub returns-clause-tidy : goal.returns-clause-tidy
returns-clause-tidy c = tidy_may_open

pub returns-clause-stopped : goal.returns-clause-stopped
returns-clause-stopped c = stopped_may_open

pub returns-clause-faulted : goal.returns-clause-faulted
returns-clause-faulted c = faulted_may_open

pub returns-clause-begun : goal.returns-clause-begun
returns-clause-begun c = begun_may_open
