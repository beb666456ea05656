-- The laws are proved.
use Rattle.df_lifetime.proofs.RunTexts.{one_run, run_text_is_result}
use Rattle.df_lifetime.proofs.printed.a_run_has_one_result.Goals as goal

pub returns-clause-one : goal.returns-clause-one
returns-clause-one c = one_run

pub returns-clause-result : goal.returns-clause-result
returns-clause-result c = run_text_is_result
