-- The laws are proved.
use Rattle.df_lifetime.proofs.Upgrades.{done_is_upgraded, stopped_is_upgraded, upgraded_begins}
use Rattle.df_lifetime.proofs.life.an_upgrade_begins_a_life.Goals as goal

pub returns-clause-begins : goal.returns-clause-begins
returns-clause-begins c = upgraded_begins

pub returns-clause-done : goal.returns-clause-done
returns-clause-done c = done_is_upgraded

pub returns-clause-stopped : goal.returns-clause-stopped
returns-clause-stopped c = stopped_is_upgraded
