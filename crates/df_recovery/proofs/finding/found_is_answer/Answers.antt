-- The laws are proved.
use Rattle.df_recovery.proofs.OpenAnswers
use Rattle.df_recovery.proofs.finding.found_is_answer.Goals as goal

pub returns-clause-refused : goal.returns-clause-refused
returns-clause-refused c = OpenAnswers.refused_is_answer

pub returns-clause-kept : goal.returns-clause-kept
returns-clause-kept c = OpenAnswers.kept_is_answer
