-- The laws are proved.
use Rattle.df_session.proofs.{Agreed.{next_same}, Folds.{result_agrees}}
use Rattle.df_session.proofs.results.what_agrees_is_not_told_apart.Goals as goal

pub returns-clause-next : goal.returns-clause-next
returns-clause-next c = next_same

pub returns-clause-result : goal.returns-clause-result
returns-clause-result c = result_agrees
