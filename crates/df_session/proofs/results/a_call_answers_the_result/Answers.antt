-- The laws are proved.
use Rattle.df_session.proofs.OneMore.{one_more_is_result, supplied_is_result}
use Rattle.df_session.proofs.results.a_call_answers_the_result.Goals as goal

pub returns-clause-supplied : goal.returns-clause-supplied
returns-clause-supplied c = supplied_is_result

pub returns-clause-answered : goal.returns-clause-answered
returns-clause-answered c = one_more_is_result
