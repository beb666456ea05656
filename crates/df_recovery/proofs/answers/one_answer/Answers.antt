-- An image has one answer.
use Rattle.df_recovery.proofs.OneAnswer.{super_or_refusal_as, one_super_as, one_refusal_as}
use Rattle.df_recovery.proofs.answers.one_answer.Goals as goal

pub returns-clause-excluded : goal.returns-clause-excluded
returns-clause-excluded c = super_or_refusal_as

pub returns-clause-one : goal.returns-clause-one
returns-clause-one c = one_super_as

pub returns-clause-reason : goal.returns-clause-reason
returns-clause-reason c = one_refusal_as
