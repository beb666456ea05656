-- The laws are proved.
use Rattle.df_lifetime.proofs.{Blank.{new_disks_are_made_on}, Found.{acknowledged_is_found}, Haves.{idle_sessions_leave_it}, Lives.{every_life_goes_on, every_life_is_in_order, every_run_goes_along}, OpenLives.{every_open_begins}}
use Rattle.df_lifetime.proofs.life.sessions_compose.Goals as goal

pub returns-clause-begins : goal.returns-clause-begins
returns-clause-begins c = new_disks_are_made_on

pub returns-clause-order : goal.returns-clause-order
returns-clause-order c = every_life_is_in_order

pub returns-clause-goes_on : goal.returns-clause-goes_on
returns-clause-goes_on c = every_life_goes_on

pub returns-clause-acknowledged : goal.returns-clause-acknowledged
returns-clause-acknowledged c = acknowledged_is_found

pub returns-clause-along : goal.returns-clause-along
returns-clause-along c = every_run_goes_along

pub returns-clause-opened : goal.returns-clause-opened
returns-clause-opened c = every_open_begins

pub returns-clause-idle : goal.returns-clause-idle
returns-clause-idle c = idle_sessions_leave_it
