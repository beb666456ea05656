use Rattle.df_model.proofs.Results.{result_law, writes_law}
use Rattle.df_model.proofs.machine.answers_are_the_result.Goals as goal

pub returns-clause-result : goal.returns-clause-result
returns-clause-result c = result_law

pub returns-clause-writes : goal.returns-clause-writes
returns-clause-writes c = writes_law
