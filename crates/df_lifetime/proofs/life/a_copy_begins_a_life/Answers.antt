use Rattle.df_lifetime.proofs.Copies.{copied_life, made_is_copied, stopped_is_copied}
use Rattle.df_lifetime.proofs.life.a_copy_begins_a_life.Goals as goal

pub returns-clause-begins : goal.returns-clause-begins
returns-clause-begins c = copied_life

pub returns-clause-made : goal.returns-clause-made
returns-clause-made c = made_is_copied

pub returns-clause-stopped : goal.returns-clause-stopped
returns-clause-stopped c = stopped_is_copied
