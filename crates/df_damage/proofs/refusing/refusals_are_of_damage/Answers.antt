use Rattle.df_damage.proofs.Refused.{refusals_are_of_damage, spent_is_the_files}
use Rattle.df_damage.proofs.refusing.refusals_are_of_damage.Goals as goal

pub returns-clause-hurt : goal.returns-clause-hurt
returns-clause-hurt c = refusals_are_of_damage

pub returns-clause-spent : goal.returns-clause-spent
returns-clause-spent c = spent_is_the_files
