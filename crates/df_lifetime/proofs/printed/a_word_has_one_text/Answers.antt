-- The laws are proved.
use Rattle.df_lifetime.proofs.{OneRun.{workload_has_one_text}, OneText.{recover_has_one_text}, OneTour.{scrub_has_one_text}}
use Rattle.df_lifetime.proofs.printed.a_word_has_one_text.Goals as goal

pub returns-clause-recover : goal.returns-clause-recover
returns-clause-recover c = recover_has_one_text

pub returns-clause-scrub : goal.returns-clause-scrub
returns-clause-scrub c = scrub_has_one_text

pub returns-clause-workload : goal.returns-clause-workload
returns-clause-workload c = workload_has_one_text
