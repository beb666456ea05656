-- An image has one superblock, and so one file, one answer of the theory, and one test that a trailer fails first.
use Rattle.df_recovery.proofs.OneSurvey.{one_survey}
use Rattle.df_recovery.proofs.answers.one_refusal_is_given.Goals as goal

pub returns : goal.returns
returns c = one_survey
