use Rattle.df_damage.proofs.Refused.{refusals_blame_hurt, superblock_is_hurt}
use Rattle.df_damage.proofs.refusing.refusals_blame_what_is_hurt.Goals as goal

pub returns-clause-rest : goal.returns-clause-rest
returns-clause-rest c = refusals_blame_hurt

pub returns-clause-copies : goal.returns-clause-copies
returns-clause-copies c = superblock_is_hurt
