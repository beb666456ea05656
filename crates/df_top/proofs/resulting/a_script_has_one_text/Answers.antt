-- The laws are proved.
use Rattle.df_top.proofs.Texted.{one_text, text_alone, text_is_result}
use Rattle.df_top.proofs.resulting.a_script_has_one_text.Goals as goal

pub returns-clause-result : goal.returns-clause-result
returns-clause-result c = text_is_result

pub returns-clause-one : goal.returns-clause-one
returns-clause-one c = one_text

pub returns-clause-alone : goal.returns-clause-alone
returns-clause-alone c = text_alone
