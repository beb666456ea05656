use Rattle.df_damage.proofs.Left.{stopped_may_be_hurt, tidy_may_be_hurt}
use Rattle.df_damage.proofs.disks.what_is_left_may_be_hurt.Goals as goal

pub returns-clause-tidy : goal.returns-clause-tidy
returns-clause-tidy c = tidy_may_be_hurt

pub returns-clause-stopped : goal.returns-clause-stopped
returns-clause-stopped c = stopped_may_be_hurt
