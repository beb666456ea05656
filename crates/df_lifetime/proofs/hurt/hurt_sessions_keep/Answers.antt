-- The laws are proved.
use Rattle.df_lifetime.proofs.{HurtSessions.{hurt_runs_keep, runs_keep_anew, runs_keep_on}, Openings.{stopped_opens_begin}}
use Rattle.df_lifetime.proofs.hurt.hurt_sessions_keep.Goals as goal

pub returns-clause-runs : goal.returns-clause-runs
returns-clause-runs c = runs_keep_on

pub returns-clause-hurt : goal.returns-clause-hurt
returns-clause-hurt c = hurt_runs_keep

pub returns-clause-anew : goal.returns-clause-anew
returns-clause-anew c = runs_keep_anew

pub returns-clause-stopped : goal.returns-clause-stopped
returns-clause-stopped c = stopped_opens_begin
