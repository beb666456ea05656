use Rattle.df_model.proofs.{Changing.{blocks_law}, Recalls.{change_law, lists_law}}
use Rattle.df_model.proofs.machine.memory_changes_so.Goals as goal

pub returns-clause-memory : goal.returns-clause-memory
returns-clause-memory c = change_law

pub returns-clause-blocks : goal.returns-clause-blocks
returns-clause-blocks c = blocks_law

pub returns-clause-lists : goal.returns-clause-lists
returns-clause-lists c = lists_law
