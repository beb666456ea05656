use Rattle.df_model.proofs.{Boots.{boot_command_law}, OpenLeads.{disk_open_law, open_command_law}}
use Rattle.df_model.proofs.raising.open_leads_on.Goals as goal

pub returns-clause-update : goal.returns-clause-update
returns-clause-update c = boot_command_law

pub returns-clause-open : goal.returns-clause-open
returns-clause-open c = open_command_law

pub returns-clause-disk : goal.returns-clause-disk
returns-clause-disk c = disk_open_law
