use Rattle.df_model.proofs.Answering.{memory_law, order_law}
use Rattle.df_model.proofs.machine.memory_answers.Goals as goal

pub returns-clause-memory : goal.returns-clause-memory
returns-clause-memory c = memory_law

pub returns-clause-order : goal.returns-clause-order
returns-clause-order c = order_law
